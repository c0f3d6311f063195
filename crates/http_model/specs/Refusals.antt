-- What each refusal of framing replies (RFC 9110 section 15).
use Rattle.std.specs.Prelude.{ℕ, List, ◌++◌, codes}
use Rattle.library_model.specs.declared.messages.Reply.{Reply}
use Rattle.library_model.specs.Replies.{json}
use Rattle.http_model.specs.declared.refusals.AskingRefusal.{AskingRefusal}
use Rattle.http_model.specs.declared.refusals.AskingRefusal.TheVariants.{NoRoute, Method, Token, Name, Body}
use Rattle.http_model.specs.declared.refusals.FramingRefusal.{FramingRefusal}
use Rattle.http_model.specs.declared.refusals.FramingRefusal.TheVariants.{Frame, Length, Size}
use Rattle.http_model.specs.declared.refusals.TheConstants.{FRAME, LENGTH, SIZE, NO_ROUTE, METHOD, TOKEN, NAME, BODY}

-- the status and the word of a refusal, from the one table of them
abbrev pub framing_row : FramingRefusal → ℕ × record { now : List ℕ }
framing_row Frame = FRAME
framing_row Length = LENGTH
framing_row Size = SIZE

-- a refusal: its status, and its word as JSON
abbrev pub framing_refusal : FramingRefusal → Reply
framing_refusal cause = json (framing_row cause).0 (codes "{\"error\":\"" ++ (framing_row cause).1.now ++ codes "\"}")

-- the status and the word of a refusal of what is asked, from the one table of them
abbrev pub asking_row : AskingRefusal → ℕ × record { now : List ℕ }
asking_row NoRoute = NO_ROUTE
asking_row Method = METHOD
asking_row Token = TOKEN
asking_row Name = NAME
asking_row Body = BODY

-- a refusal of what is asked: its status, and its word as JSON
abbrev pub asking_refusal : AskingRefusal → Reply
asking_refusal cause = json (asking_row cause).0 (codes "{\"error\":\"" ++ (asking_row cause).1.now ++ codes "\"}")
