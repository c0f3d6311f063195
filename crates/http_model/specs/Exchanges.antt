-- Framed requests with the replies to them, and the bytes that answer an input.
use Rattle.std.specs.Prelude.{ℕ, List, [], ◌∷◌, ◌++◌, ◌==◌, map, if◌then◌else◌}
use Rattle.library_model.specs.declared.messages.Reply.{Reply}
use Rattle.library_model.specs.Asked.{Asked}
use Rattle.library_model.specs.Exchanges as model
use Rattle.http_model.specs.declared.refusals.AskingRefusal.TheVariants.{Method}
use Rattle.http_model.specs.Asking.{allows_of, asked_of}
use Rattle.http_model.specs.Refusals.{asking_row}
use Rattle.http_model.specs.Requests.{End, Framed, closes, ended, turns, unframeable}
use Rattle.http_model.specs.Spelling.{spelled, spelled_refusal}

-- a framed request with the reply to it
pub record Exchange : Type 0 where
  pub request : Framed
  pub reply : Reply

-- that request with that reply
abbrev pub exchange : Framed → Reply → Exchange
exchange request reply = record { request = request; reply = reply }

-- the requests of exchanges
abbrev pub requests_of : List Exchange → List Framed
requests_of exchanges = map (λ (e : Exchange). e.request) exchanges

-- ---- what was asked

-- what framed requests ask
abbrev pub asked_all : List Framed → List Asked
asked_all requests = map asked_of requests

-- what was asked, with the reply to it
abbrev pub answered : Exchange → model.Exchange
answered e = model.exchange (asked_of e.request) e.reply

-- the same of exchanges
abbrev pub answered_all : List Exchange → List model.Exchange
answered_all exchanges = map answered exchanges

-- ---- the bytes

-- the methods that a reply to the request names: those of its target where the status is 405, and else none
-- (RFC 9110 section 15.5.6)
abbrev pub allows_in : Framed → Reply → List (List ℕ)
allows_in q reply = if reply.status == (asking_row Method).0 then allows_of q else []

-- The bytes of a reply to the request. The connection closes after it where the request asks for that.
abbrev pub spelled_to : Framed → Reply → List ℕ
spelled_to q reply = spelled (closes q.head) (allows_in q reply) reply

-- the bytes that answer an exchange
abbrev pub spelled_of : Exchange → List ℕ
spelled_of e = spelled_to e.request e.reply

-- the bytes that answer exchanges, one after another
abbrev pub spelled_all : List Exchange → List ℕ
spelled_all [] = []
spelled_all (e ∷ exchanges) = spelled_of e ++ spelled_all exchanges

-- the last bytes of an output: the reply to what can't be framed
abbrev pub ending : End → List ℕ
ending ended = []
ending (unframeable reply) = spelled_refusal reply
ending turns = []

-- the bytes that answer an input: the replies to its requests, one after another, and then its ending
abbrev pub output : List Exchange → End → List ℕ
output exchanges end = spelled_all exchanges ++ ending end
