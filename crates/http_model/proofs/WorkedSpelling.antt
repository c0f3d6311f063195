-- Worked rows: the bytes of replies.
use Rattle.std.proofs.Common.{◌≡◌, false, [], ◌∷◌, ◌++◌, codes, refl}
use Rattle.std.specs.Fmt.{digits}
use Rattle.serde_json.proofs.OnLiterals.{serde_json_on_literals}
use Rattle.lib_base.specs.declared.outcomes.Rule.TheVariants.{V}
use Rattle.sound_model.specs.Texts.{millionths}
use Rattle.library_model.specs.declared.refusals.Refusal.TheVariants.{NoRecording, Memory}
use Rattle.library_model.specs.Machine.{recording_reply}
use Rattle.library_model.specs.Replies.{format_refusal, refusal}
use Rattle.library_model.proofs.WorkedReplies.{row_recording}
use Rattle.http_routes.specs.declared.routes.Route.TheVariants.{Recording}
use Rattle.http_routes.specs.Routes.{methods_of}
use Rattle.http_model.specs.declared.refusals.AskingRefusal.TheVariants.{Method}
use Rattle.http_model.specs.declared.refusals.FramingRefusal.TheVariants.{Frame, Length, Size}
use Rattle.http_model.specs.Refusals.{asking_refusal, framing_refusal}
use Rattle.http_model.specs.Spelling.{spelled, spelled_refusal}

-- The reply to the import of a recording.
pub spelled-recording_reply : spelled false [] (recording_reply 201 row_recording)
    ≡ codes "HTTP/1.1 201 Created" ++ 13 ∷ 10 ∷ codes "Content-Type: application/json"
    ++ 13 ∷ 10 ∷ codes "Content-Length: 195"
    ++ 13 ∷ 10 ∷ 13 ∷ 10 ∷ codes "{\"album\":null,\"channels\":1,\"depth\":16,\"frames\":4,\"gain\":null,\"id\":1,\"kind\":\"wave\",\"loudness\":null,\"momentary\":null,\"name\":\"\",\"peak\":\"0.537233\",\"range\":null,\"short\":null,\"take\":1,\"true_peak\":-540}"
unfolding serde_json_on_literals digits millionths
spelled-recording_reply = refl

-- The refusal of a file whose size field is wrong.
pub spelled-format_refusal : spelled false [] (format_refusal (V 3) 4)
    ≡ codes "HTTP/1.1 422 Unprocessable Content" ++ 13 ∷ 10 ∷ codes "Content-Type: application/json"
    ++ 13 ∷ 10 ∷ codes "Content-Length: 40"
    ++ 13 ∷ 10 ∷ 13 ∷ 10 ∷ codes "{\"error\":\"format\",\"place\":4,\"rule\":\"V3\"}"
unfolding digits
spelled-format_refusal = refl

-- The refusal of bytes that begin no request, after which the connection closes.
pub spelled-frame : spelled_refusal (framing_refusal Frame)
    ≡ codes "HTTP/1.1 400 Bad Request" ++ 13 ∷ 10 ∷ codes "Content-Type: application/json"
    ++ 13 ∷ 10 ∷ codes "Content-Length: 17" ++ 13 ∷ 10 ∷ codes "Connection: close"
    ++ 13 ∷ 10 ∷ 13 ∷ 10 ∷ codes "{\"error\":\"frame\"}"
unfolding digits
spelled-frame = refl

-- The refusal of a request that gives no length, after which the connection closes.
pub spelled-length : spelled_refusal (framing_refusal Length)
    ≡ codes "HTTP/1.1 411 Length Required" ++ 13 ∷ 10 ∷ codes "Content-Type: application/json"
    ++ 13 ∷ 10 ∷ codes "Content-Length: 18" ++ 13 ∷ 10 ∷ codes "Connection: close"
    ++ 13 ∷ 10 ∷ 13 ∷ 10 ∷ codes "{\"error\":\"length\"}"
unfolding digits
spelled-length = refl

-- The refusal of an input that is too long, after which the connection closes.
pub spelled-size : spelled_refusal (framing_refusal Size)
    ≡ codes "HTTP/1.1 413 Content Too Large" ++ 13 ∷ 10 ∷ codes "Content-Type: application/json"
    ++ 13 ∷ 10 ∷ codes "Content-Length: 16" ++ 13 ∷ 10 ∷ codes "Connection: close"
    ++ 13 ∷ 10 ∷ 13 ∷ 10 ∷ codes "{\"error\":\"size\"}"
unfolding digits
spelled-size = refl

-- The refusal of a question after a recording that is not there.
pub spelled-no_recording : spelled false [] (refusal NoRecording)
    ≡ codes "HTTP/1.1 404 Not Found" ++ 13 ∷ 10 ∷ codes "Content-Type: application/json"
    ++ 13 ∷ 10 ∷ codes "Content-Length: 24"
    ++ 13 ∷ 10 ∷ 13 ∷ 10 ∷ codes "{\"error\":\"no-recording\"}"
unfolding digits
spelled-no_recording = refl

-- The refusal for want of memory.
pub spelled-memory : spelled false [] (refusal Memory)
    ≡ codes "HTTP/1.1 503 Service Unavailable" ++ 13 ∷ 10 ∷ codes "Content-Type: application/json"
    ++ 13 ∷ 10 ∷ codes "Content-Length: 18"
    ++ 13 ∷ 10 ∷ 13 ∷ 10 ∷ codes "{\"error\":\"memory\"}"
unfolding digits
spelled-memory = refl

-- The refusal of a method that a recording has not.
pub spelled-method : spelled false (methods_of Recording) (asking_refusal Method)
    ≡ codes "HTTP/1.1 405 Method Not Allowed" ++ 13 ∷ 10 ∷ codes "Content-Type: application/json"
    ++ 13 ∷ 10 ∷ codes "Allow: GET, DELETE" ++ 13 ∷ 10 ∷ codes "Content-Length: 18"
    ++ 13 ∷ 10 ∷ 13 ∷ 10 ∷ codes "{\"error\":\"method\"}"
unfolding digits
spelled-method = refl
