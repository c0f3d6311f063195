-- The parts of the lines of a reply.
use Rattle.std.specs.Prelude.{ℕ, Bool, List, [], ◌++◌, length, codes, decimal}
use Rattle.library_model.specs.declared.messages.Reply.{Reply}
use Rattle.http_model.specs.Spelling.{closing, line, media_type, reason}

-- the lines of its status and of the body's type
abbrev pub head_front : Reply → List ℕ
head_front reply =
    line (codes "HTTP/1.1 " ++ decimal reply.status ++ codes " " ++ reason reply.status)
    ++ line (codes "Content-Type: " ++ media_type reply.kind)

-- the lines from the length of the body on
abbrev pub head_tail : Bool → Reply → List ℕ
head_tail closes reply = line (codes "Content-Length: " ++ decimal (length reply.body)) ++ closing closes ++ line []
