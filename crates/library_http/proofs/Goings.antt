-- How ghost values go on over several calls: contents, written bytes and counts.
use Rattle.std.proofs.Common.{◌≡◌, ◌≤◌, ℕ, ◌+◌, Option, None, Some, List, [], ◌∷◌, ◌++◌, refl, sym, ap, subst, append_assoc, arith}
use Rattle.std.specs.List.{AllByRecursion}
use Rattle.std.specs.Io.KnownBytes.{Appends}
use Rattle.std.proofs.KnownBytes.{Appends-trans}
use Rattle.keeper_store.specs.Blobs.{Blobs}
use Rattle.keeper_store.specs.Goes.{Goes}
use Rattle.lib_base.specs.Faults.{Rose}
use Rattle.lib_base.specs.Writes.{AppendsPart}
use Rattle.library_http.specs.Acts.{count_held, held}
use Rattle.library_http.specs.Sessions.{AppendsInPart}
use Rattle.library_http.specs.World.{RoseBy}

-- ---- contents

-- What goes on so, and then so, goes on as the two together say.
pub Goes-then : {A : Type 0} (P Q R : A → A → Type 0) → ((x y z : A) → P x y → Q y z → R x z)
    → (a b c : Option A) → Goes P a b → Goes Q b c → Goes R a c
Goes-then P Q R joined None b c p q = tt
Goes-then P Q R joined (Some x) None c p q = absurd p
Goes-then P Q R joined (Some x) (Some y) None p q = absurd q
Goes-then P Q R joined (Some x) (Some y) (Some z) p q = joined x y z p q

-- What stays goes on so, where each content goes on so to itself.
pub Goes-same : {A : Type 0} (P : A → A → Type 0) → ((x : A) → P x x) → (a : Option A) → Goes P a a
Goes-same P same None = tt
Goes-same P same (Some x) = same x

-- What goes on so goes on as follows from that.
pub Goes-weaker : {A : Type 0} (P Q : A → A → Type 0) → ((x y : A) → P x y → Q x y)
    → (a b : Option A) → Goes P a b → Goes Q a b
Goes-weaker P Q weaker None b p = tt
Goes-weaker P Q weaker (Some x) None p = absurd p
Goes-weaker P Q weaker (Some x) (Some y) p = weaker x y p

-- What goes on in two ways goes on as the two together say.
pub Goes-both : {A : Type 0} (P Q R : A → A → Type 0) → ((x y : A) → P x y → Q x y → R x y)
    → (a b : Option A) → Goes P a b → Goes Q a b → Goes R a b
Goes-both P Q R joined None b p q = tt
Goes-both P Q R joined (Some x) None p q = absurd p
Goes-both P Q R joined (Some x) (Some y) p q = joined x y p q

-- ---- written bytes

-- Bytes were written, and then others, of which a part is left.
pub Appends-part : (a b c : Option (List ℕ)) (xs others text : List ℕ) → Appends a b xs → AppendsInPart others text b c
    → AppendsInPart (xs ++ others) text a c
Appends-part a b c xs others text p q =
    (q.0, q.1, q.2, q.3, subst (Appends a c) (sym (append_assoc xs others q.0)) (Appends-trans a b c xs (others ++ q.0) p q.4))

-- The same where nothing but the text was due.
pub Appends-part_only : (a b c : Option (List ℕ)) (xs text : List ℕ) → Appends a b xs → AppendsPart b c text → AppendsInPart xs text a c
Appends-part_only a b c xs text p q = (q.0, q.1, q.2, q.3, Appends-trans a b c xs q.0 p q.4)

-- ---- counts

-- A count that did not fall rose by none.
pub RoseBy-none : (a x y : ℕ) → a ≡ 0 → x ≤ y → RoseBy a x y
RoseBy-none a x y none later = omega arith

-- One that rose has risen by one.
pub RoseBy-one : (a x y : ℕ) → a ≤ 1 → Rose x y → RoseBy a x y
RoseBy-one a x y one rose = omega arith

-- ---- keys that hold something

-- Of two lists of keys as many hold something as of each.
pub count_held-append : (blobs : Blobs) (xs ys : List ℕ) → count_held blobs (xs ++ ys) ≡ count_held blobs xs + count_held blobs ys
count_held-append blobs [] ys = omega arith
count_held-append blobs (x ∷ xs) ys =
    let rest = count_held-append blobs xs ys in
    omega (arith, rest)

-- Keys that hold what they held are as many.
pub count_held-same : (old new : Blobs) (keys : List ℕ) → AllByRecursion (λ key. new key ≡ old key) keys
    → count_held new keys ≡ count_held old keys
count_held-same old new [] same = refl
count_held-same old new (key ∷ keys) same =
    let rest = count_held-same old new keys same.1 in
    let first : held (new key) ≡ held (old key) = ap held same.0 in
    omega (arith, rest, first)
