use Rattle.std.proofs.Common.{◌≡◌, ◌<◌, ℕ, List, get_or, length, All, Contains, sym, ap, ◌∙◌, subst, arith}
use Rattle.album_merge.specs.declared.members.Member.{Member}
use Rattle.album_merge.specs.Members.{Kept, IsPlaceOf, member_id, placed, without}
use Rattle.album_merge.specs.Tallies.{Tallied}
use Rattle.album_merge.proofs.Joining.{absent_past, absent_at, has_none}
use Rattle.album_merge.proofs.Placing.{without_none, without_at, placed_back, at_place, only_one}
use Rattle.album_merge.proofs.albums.Album.take_out.Goals as goal
use Rattle.album_merge.proofs.albums.Album.take_out.Goals.{Joined-then-place-len, After-remove, then-place-len-via-then-place-len, then-place-len-via-else-place-len+then-index-id}

-- the members as they were
before : (c : After-remove) → c.self.inside.members.items ≡ c.args.self.now.members
before c = ap (λ (k : Kept). k.members) c.self.view_is

-- where none is found, none has the id
absent : (c : Joined-then-place-len) → All (λ m. member_id m ≡ c.args.id → ⊥) c.args.self.now.members
absent c =
    let items = c.self.inside.members.items in
    let same = ap (λ (k : Kept). k.members) c.self.view_is in
    let At : List Member → Type 0 = λ ms. IsPlaceOf ms c.args.id c.place_of-place.result in
    let split = subst At c.deref.ensures.value c.place_of-place.ensures in
    let Absent : List Member → Type 0 = λ ms. All (λ m. member_id m ≡ c.args.id → ⊥) ms in
    subst Absent same
    (elim c.then-place-len.branch [
      | then-place-len-via-then-place-len w ↦ absent_past items c.args.id c.place_of-place.result split
          (let past = w.if-place-len.true in let long = ap length c.deref.ensures.value in omega (arith, past, long, c.deref.ensures.len, c.len.ensures))
      | then-place-len-via-else-place-len+then-index-id w ↦
          absent_at items c.args.id c.place_of-place.result w.index.result.now c.self.invariant.0 split
          (let other = w.if-place-len.false in let long = ap length c.deref.ensures.value in omega (arith, other, long, split.inside, c.deref.ensures.len, c.len.ensures)) w.index.ensures w.if-index-id.true
    ])

pub returns-then-place-len-clause-none : goal.returns-then-place-len-clause-none
returns-then-place-len-clause-none c = has_none member_id c.args.id c.args.self.now.members (absent c)

pub returns-then-place-len-clause-members : goal.returns-then-place-len-clause-members
returns-then-place-len-clause-members c = sym (without_none member_id c.args.id c.args.self.now.members (absent c))

inside : (c : After-remove) → c.place_of-place.result < length c.self.inside.members.items
inside c =
    let At : List Member → Type 0 = λ ms. IsPlaceOf ms c.args.id c.place_of-place.result in
    let split = subst At c.deref.ensures.value c.place_of-place.ensures in
    omega (arith, c.if-place-len.false, split.inside, c.len.ensures)

-- the one that is taken out has the id
its_id : (c : After-remove) → c.remove.result.id ≡ c.args.id
its_id c =
    let items = c.self.inside.members.items in
    let place = c.place_of-place.result in
    let same = at_place items place c.index.result.now c.remove.result (inside c) c.index.ensures in
    ap member_id (c.remove.ensures.value ∙ same) ∙ c.if-index-id.false

pub returns-clause-its : goal.returns-clause-its
returns-clause-its c member has id =
    let removed = (goal.at.returns-clause-its c).After-remove in
    let Has : List Member → Type 0 = λ ms. Contains ms member in
    ap (λ (m : Member). m.tally)
    (only_one member_id c.self.inside.members.items c.place_of-place.result c.remove.result member c.self.invariant.0 (inside removed)
    c.remove.ensures.value (subst Has (sym (before removed)) has) (id ∙ sym (its_id removed)))

pub returns-clause-back : goal.returns-clause-back
returns-clause-back c =
    let removed = (goal.at.returns-clause-back c).After-remove in
    let items = c.self.inside.members.items in
    let tally = c.remove.result.tally in
    let put : Member → List Member = λ m. placed member_id m c.remove.new.self.items in
    let back = placed_back member_id c.remove.result c.place_of-place.result items c.self.invariant.0 (inside removed) (sym c.remove.ensures.value) in
    sym (before removed) ∙ sym back ∙ ap (placed member_id c.remove.result) (sym c.remove.ensures.items)
    ∙ ap (λ (n : ℕ). put (record { id = n; tally = tally })) (its_id removed)

pub returns-clause-members : goal.returns-clause-members
returns-clause-members c =
    let removed = (goal.at.returns-clause-members c).After-remove in
    let items = c.self.inside.members.items in
    let place = c.place_of-place.result in
    c.remove.ensures.items
    ∙ sym (without_at member_id c.args.id place items c.self.invariant.0 (inside removed)
    (λ d. ap member_id (at_place items place c.remove.result d (inside removed) c.remove.ensures.value) ∙ its_id removed))
    ∙ ap (without member_id c.args.id) (before removed)
