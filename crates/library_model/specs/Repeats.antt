-- Requests that come again under one token.
use Rattle.std.specs.Prelude.{◌≡◌, ◌≢◌, ◌⊎◌, ℕ, List, [], ◌∷◌, ⊤}
use Rattle.library_model.specs.declared.refusals.Refusal.TheVariants.{Memory}
use Rattle.library_model.specs.Asked.{Wanted, change}
use Rattle.library_model.specs.Exchanges.{Answers, Exchange}
use Rattle.library_model.specs.Machine.{kept_reply, repeat_reply}
use Rattle.library_model.specs.Replies.{refusal}
use Rattle.library_model.specs.State.{Kept, State}

-- P of each exchange, and of the states before and after it
abbrev pub Each : (Exchange → State → State → Type 0) → (s : State) (exchanges : List Exchange) (last : State) (released : List ℕ)
    → Answers s exchanges last released → Type 0
Each P s [] last released answers = ⊤
Each P s (e ∷ exchanges) last released answers = P e s answers.0 × Each P answers.0 exchanges last answers.1 answers.3

-- Where the exchange is a change under the token, the state stays, and the reply is what a repeat of the kept one gets, or the refusal
-- for want of memory.
abbrev pub IsRepeat : List ℕ → Kept → Exchange → State → State → Type 0
IsRepeat token kept e s next =
    (mark : List ℕ) (wanted : Wanted) → e.request ≡ change token mark wanted
    → (next ≡ s) × ((e.reply ≡ repeat_reply mark kept) ⊎ (e.reply ≡ refusal Memory))

-- Of the changes under the token one at most changes the state: behind one that does, each other is a repeat of it.
abbrev pub ChangesOnce : List ℕ → (s : State) (exchanges : List Exchange) (last : State) (released : List ℕ)
    → Answers s exchanges last released → Type 0
ChangesOnce token s [] last released answers = ⊤
ChangesOnce token s (e ∷ exchanges) last released answers =
    ((mark : List ℕ) (wanted : Wanted) → e.request ≡ change token mark wanted → answers.0 ≢ s
    → Each (IsRepeat token (kept_reply token mark e.reply)) answers.0 exchanges last answers.1 answers.3)
    × ChangesOnce token answers.0 exchanges last answers.1 answers.3
