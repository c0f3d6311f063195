-- Requests with the replies to them.
use Rattle.std.specs.Prelude.{◌≡◌, ◌+◌, ◌==◌, ℕ, List, [], ◌∷◌, ◌++◌, map, if◌then◌else◌}
use Rattle.library_model.specs.declared.messages.Reply.{Reply}
use Rattle.library_model.specs.Asked.{Asked}
use Rattle.library_model.specs.Machine.{Answer, taken_out}
use Rattle.library_model.specs.State.{State}

-- a request with the reply to it
pub record Exchange : Type 0 where
  pub request : Asked
  pub reply : Reply

-- that request with that reply
abbrev pub exchange : Asked → Reply → Exchange
exchange request reply = record { request = request; reply = reply }

-- the requests of exchanges
abbrev pub requests_of : List Exchange → List Asked
requests_of exchanges = map (λ (e : Exchange). e.request) exchanges

-- From s, the library may make the exchanges in order, and end in last, with these takes taken out on the way.
abbrev pub Answers : State → List Exchange → State → List ℕ → Type 0
Answers s [] last released = (last ≡ s) × (released ≡ [])
Answers s (e ∷ exchanges) last released =
    (next : State) × (later : List ℕ) × Answer s e.request e.reply next × Answers next exchanges last later
    × (released ≡ taken_out s next ++ later)

-- one for a reply of that status, and none for another
abbrev pub counted : ℕ → Reply → ℕ
counted status reply = if reply.status == status then 1 else 0

-- how many replies have that status
abbrev pub count_status : ℕ → List Exchange → ℕ
count_status status [] = 0
count_status status (e ∷ exchanges) = counted status e.reply + count_status status exchanges
