-- The requests of bytes, one in front of others.
use Rattle.std.proofs.Common.{◌≡◌, ◌≢◌, ◌⊎◌, inl, inr, ℕ, suc, zero, Bool, true, false, List, [], ◌∷◌, refl, sym, subst}
use Rattle.http_model.specs.declared.refusals.FramingRefusal.{FramingRefusal}
use Rattle.http_model.specs.Refusals.{framing_refusal}
use Rattle.http_model.specs.Requests.{AreRequests, End, Framed, Frames, IsFront, IsUnframeable, closes, ended, turns, unframeable}
use Rattle.http_model.proofs.RunLaws.{AreRequests-from, RequestsOf-nothing, RequestsOf-refused}

-- A request that stays stands in front of those behind it.
pub AreRequests-cons : (most : ℕ) (bytes rest : List ℕ) (q : Framed) (requests : List Framed) (end : End) → Frames bytes q rest
    → closes q.head ≡ false → AreRequests most rest requests end → AreRequests (suc most) bytes (q ∷ requests) end
AreRequests-cons most bytes rest q requests end frames stays behind =
    AreRequests-from (suc most) bytes (q ∷ requests) end (rest, frames, inr (stays, behind.are))

-- One that closes stands alone.
pub AreRequests-closing : (more : ℕ) (bytes rest : List ℕ) (q : Framed) → Frames bytes q rest → closes q.head ≡ true
    → AreRequests (suc more) bytes (q ∷ []) ended
AreRequests-closing more bytes rest q frames shuts =
    AreRequests-from (suc more) bytes (q ∷ []) ended (rest, frames, inl (shuts, refl, refl))

-- No bytes are no requests.
pub AreRequests-none : (most : ℕ) (bytes : List ℕ) → bytes ≡ [] → AreRequests most bytes [] ended
AreRequests-none most bytes none =
    subst (λ (b : List ℕ). AreRequests most b [] ended) (sym none) (AreRequests-from most [] [] ended (RequestsOf-nothing most))

-- Bytes that can't be framed are none.
pub AreRequests-refused : (more : ℕ) (bytes : List ℕ) (cause : FramingRefusal) → IsUnframeable bytes cause
    → AreRequests (suc more) bytes [] (unframeable (framing_refusal cause))
AreRequests-refused more bytes cause is =
    AreRequests-from (suc more) bytes [] (unframeable (framing_refusal cause)) (RequestsOf-refused more bytes cause is)

-- Where no request more is answered, bytes end a session so.
pub AreRequests-turns : (bytes : List ℕ) → bytes ≢ [] → AreRequests zero bytes [] turns
AreRequests-turns bytes some = AreRequests-from zero bytes [] turns (refl, inr (some, refl))

-- A front behind a request that stays is one with it.
pub IsFront-cons : (most : ℕ) (bytes rest : List ℕ) (q : Framed) (requests : List Framed) → Frames bytes q rest → closes q.head ≡ false
    → IsFront most rest requests → IsFront (suc most) bytes (q ∷ requests)
IsFront-cons most bytes rest q requests frames stays behind = (rest, frames, inr (stays, behind))

-- One request is a front.
pub IsFront-one : (more : ℕ) (bytes rest : List ℕ) (q : Framed) → Frames bytes q rest → IsFront (suc more) bytes (q ∷ [])
IsFront-one more bytes rest q frames = (rest, frames, by_case (closes q.head) refl)
  where
    by_case : (b : Bool) → closes q.head ≡ b → ((closes q.head ≡ true) × (◌≡◌ {A = List Framed} [] [])) ⊎ ((closes q.head ≡ false) × IsFront more rest [])
    by_case true shuts = inl (shuts, refl)
    by_case false stays = inr (stays, tt)
