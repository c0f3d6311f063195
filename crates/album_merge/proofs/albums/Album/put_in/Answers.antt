use Rattle.std.proofs.Common.{◌≡◌, ◌<◌, ◌+◌, ℕ, List, true, length, map, insert, is_ok, vec_len, vec_capacity, Contains, sym, ap, ◌∙◌, subst, arith}
use Rattle.std.proofs.lemmas.List.{length-map}
use Rattle.album_merge.specs.declared.members.Member.{Member}
use Rattle.album_merge.specs.Members.{Kept, AscendBy, IsPlaceOf, member_id, placed}
use Rattle.album_merge.proofs.Joining.{none_has}
use Rattle.album_merge.proofs.Placing.{AscendBy-placed, placed_before}
use Rattle.album_merge.proofs.albums.Album.put_in.Goals as goal
use Rattle.album_merge.proofs.albums.Album.put_in.Goals.{After-insert}

-- the members as they were
members_are : (c : After-insert) → c.self.inside.members.items ≡ c.args.self.now.members
members_are c = ap (λ (k : Kept). k.members) c.self.view_is

succeeds : (c : After-insert) → is_ok c.insert.result ≡ true
succeeds c =
    let spare = ap (λ (k : Kept). k.spare) c.self.view_is in
    c.insert.ensures.succeeds (omega (arith, c.self.invariant.2, c.requires.spare, spare))

-- the new one stands in its place
in_place : (c : After-insert) → c.insert.new.self.items ≡ placed member_id (record { id = c.args.id; tally = c.args.tally }) c.self.inside.members.items
in_place c =
    let items = c.self.inside.members.items in
    let item : Member = record { id = c.args.id; tally = c.args.tally } in
    let At : List Member → Type 0 = λ ms. IsPlaceOf ms c.args.id c.place_of-place.result in
    let place = subst At c.deref.ensures.value c.place_of-place.ensures in
    rw (succeeds c) at c.insert.ensures.items
    ∙ sym (placed_before member_id item c.place_of-place.result items place.inside place.below place.above)

pub invariant_of-self : goal.invariant_of-self
invariant_of-self c =
    let inserted = (goal.at.invariant_of-self c).After-insert in
    let items = c.self.inside.members.items in
    let item : Member = record { id = c.args.id; tally = c.args.tally } in
    let Ascends : List Member → Type 0 = λ ms. AscendBy member_id ms in
    let Fresh : List Member → Type 0 = λ ms. Contains (map member_id ms) c.args.id → ⊥ in
    let fresh = none_has member_id c.args.id items (subst Fresh (sym (members_are inserted)) c.requires.fresh) in
    let longer = rw (succeeds inserted) at c.insert.ensures.len in
    let same = ap length (members_are inserted) in
    let ids = length-map c.args.self.now.members member_id in
    let spare = ap (λ (k : Kept). k.spare) c.self.view_is in (
      subst Ascends (sym (in_place inserted)) (AscendBy-placed member_id item items c.self.invariant.0 fresh),
      omega (arith, longer, same, ids, c.requires.few),
      omega (arith, longer, c.insert.ensures.capacity, c.self.invariant.2, c.requires.spare, spare),
      omega (arith, longer, c.self.invariant.3, c.requires.spare, spare),
    )

pub returns-clause-members : goal.returns-clause-members
returns-clause-members c =
    let inserted = (goal.at.returns-clause-members c).After-insert in
    let item : Member = record { id = c.args.id; tally = c.args.tally } in
    in_place inserted ∙ ap (placed member_id item) (members_are inserted)
