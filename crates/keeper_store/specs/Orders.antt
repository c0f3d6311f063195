-- The orders of rows.
use Rattle.std.specs.Prelude.{◌≡◌, ℕ, true, false, nat_lt}
use Rattle.std.specs.Cmp.{IsTotalOrder}
use Rattle.std.specs.Ordering.{is_lt, ordering_reverse}
use Rattle.std.proofs.Common.{Ordering, Less, Equal, Greater, true≢false, sym, ap, ◌∙◌, refl, arith}
use Rattle.std.proofs.lemmas.Bool.Decides.{nat_tests}
use Rattle.std.proofs.lemmas.Cmp.{nat_list_cmp_total}
use Rattle.keeper_store.specs.Puts.{album_less, recording_less, segments_less, reply_less, IsOrder}

-- a number less than one that is less than a third is less than that
lt-chain : (a b c : ℕ) → nat_lt a b ≡ true → nat_lt b c ≡ true → nat_lt a c ≡ true
lt-chain a b c ab bc = grind (arith, nat_tests)

-- of two numbers of which neither is less, the one is less than what the other is less than
lt-level : (a b c : ℕ) → nat_lt a b ≡ false → nat_lt b a ≡ false → nat_lt b c ≡ true → nat_lt a c ≡ true
lt-level a b c ab ba bc = grind (arith, nat_tests)

-- what is tested as less is less
less_is : (o : Ordering) → is_lt o ≡ true → o ≡ Less
less_is Less is = refl
less_is Equal is = absurd (true≢false (sym is))
less_is Greater is = absurd (true≢false (sym is))

-- of two that are compared both ways, where neither is less they are equal
equal_is : (one other : Ordering) → one ≡ ordering_reverse other → is_lt one ≡ false → is_lt other ≡ false → one ≡ Equal
equal_is one Less back not_one not_other = absurd (true≢false not_other)
equal_is one Equal back not_one not_other = back
equal_is one Greater back not_one not_other = absurd (true≢false (sym (ap is_lt back) ∙ not_one))

total-chain : {K : Type 0} {R : K → K → Ordering} → IsTotalOrder R → (a b c : K)
    → is_lt (R a b) ≡ true → is_lt (R b c) ≡ true → is_lt (R a c) ≡ true
total-chain {K} {R} total a b c ab bc = ap is_lt (total.trans a b c (less_is (R a b) ab) (less_is (R b c) bc))

total-level : {K : Type 0} {R : K → K → Ordering} → IsTotalOrder R → (a b c : K)
    → is_lt (R a b) ≡ false → is_lt (R b a) ≡ false → is_lt (R b c) ≡ true → is_lt (R a c) ≡ true
total-level {K} {R} total a b c ab ba bc =
    ap is_lt (total.congr a b c (equal_is (R a b) (R b a) (total.antisymm a b) ab ba)) ∙ bc

-- segments are told apart by their takes
pub segments_in_order : IsOrder segments_less
segments_in_order = record {
  chain = λ a b c. lt-chain a.take b.take c.take;
  level = λ a b c. lt-level a.take b.take c.take;
}

-- recordings are told apart by their ids
pub recordings_in_order : IsOrder recording_less
recordings_in_order = record {
  chain = λ a b c. lt-chain a.id b.id c.id;
  level = λ a b c. lt-level a.id b.id c.id;
}

-- albums are told apart by their ids
pub albums_in_order : IsOrder album_less
albums_in_order = record {
  chain = λ a b c. lt-chain a.id b.id c.id;
  level = λ a b c. lt-level a.id b.id c.id;
}

-- replies are told apart by their tokens
pub replies_in_order : IsOrder reply_less
replies_in_order = record {
  chain = λ a b c. total-chain nat_list_cmp_total a.token b.token c.token;
  level = λ a b c. total-level nat_list_cmp_total a.token b.token c.token;
}
