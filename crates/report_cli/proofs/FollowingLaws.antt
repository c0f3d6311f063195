-- Runs that follow one another are answered as one list of requests, so an accepted token acts once over all of them.
use Rattle.std.proofs.Common.{◌≡◌, ℕ, List, [], ◌∷◌, ◌++◌, Option, None, Some, IfSome, refl, sym, ap, ◌∙◌, subst}
use Rattle.keeper_store.specs.Goes.{Goes}
use Rattle.keeper_store.specs.declared.contents.Tables.{Tables}
use Rattle.library_model.specs.Exchanges.{Answers, Exchange}
use Rattle.library_model.specs.Repeats.{ChangesOnce}
use Rattle.library_model.specs.Stands.{IsValid, tables_of}
use Rattle.library_model.specs.State.{State}
use Rattle.library_model.proofs.ActsOnce.{accepted_once}
use Rattle.library_model.proofs.Joining.{Answers-join}
use Rattle.http_model.specs.Exchanges.{answered_all}
use Rattle.catalogue_core.specs.declared.libraries.OpenRefusal.TheVariants as refusal
use Rattle.library_http.specs.Acts.{Leads}
use Rattle.library_http.specs.World.{World}
use Rattle.report_cli.specs.Following.{Run, FollowOn, Makes, MakeInTurn}
use Rattle.report_cli.specs.InTurn.{exchanges_in, released_in}
use Rattle.report_cli.specs.Running.{Course, unread, not_a_command, not_opened, answered, served, Runs, Opened}
use Rattle.report_cli.specs.Seen.{Seen, Leaves, world_of}
use Rattle.report_cli.proofs.InTurnLaws.{in_turn_answers}

-- what goes on from a told content to a told one
told_step : {A : Type 0} (step : A → A → Type 0) (old new : Option A) (a b : A) → old ≡ Some a → new ≡ Some b → Goes step old new → step a b
told_step step old new a b old_is new_is goes =
    subst (λ o. Goes step (Some a) o) new_is (subst (λ o. Goes step o new) old_is goes)

-- what goes on from a told content is told
told_on : {A : Type 0} (step : A → A → Type 0) (old new : Option A) (a : A) → old ≡ Some a → Goes step old new
    → (b : A) × (new ≡ Some b) × step a b
told_on step old (Some b) a old_is goes = (b, refl, subst (λ o. Goes step o (Some b)) old_is goes)
told_on step old None a old_is goes = absurd (subst (λ o. Goes step o None) old_is goes)

-- What a run did from a state: its exchanges, which are answered, and the state that they led to, a valid one, of which the tables are
-- told then.
record Did (course : Course) (before now : Seen) (s : State) : Type 0 where
  own : List Exchange
  last : State
  released : List ℕ
  makes : Makes course before now s own last
  valid : IsValid last
  told : now.keeper.tables ≡ Some (tables_of last)
  answers : Answers s own last released

-- a run that leaves the tables did nothing
left_as_it_was : (before now : Seen) (s : State) → before.keeper.tables ≡ Some (tables_of s) → Leaves before now
    → now.keeper.tables ≡ Some (tables_of s)
left_as_it_was before now s told leaves =
    let on = told_on (λ t u. u ≡ t) before.keeper.tables now.keeper.tables (tables_of s) told leaves.tables in on.1 ∙ ap Some on.2

-- the tables that a library was opened over are those that were told
opened_over : {Ran : _} (before now : Seen) (s : State) (opened : Opened Ran before now) → before.keeper.tables ≡ Some (tables_of s)
    → (opened.is_opened.tables ≡ tables_of s) × (opened.opened.keeper.tables ≡ Some (tables_of s))
opened_over before now s opened told = (
  sym (subst (λ o. IfSome o (λ t. t ≡ opened.is_opened.tables)) told opened.is_opened.loaded),
  left_as_it_was before opened.opened s told opened.opens,
)

-- a state that was led to from one with the told tables has the tables that are told then
led_told : (s last : State) (before now : World) → Leads s last before now → before.keeper.tables ≡ Some (tables_of s)
    → now.keeper.tables ≡ Some (tables_of last)
led_told s last before now leads told =
    let on = told_on (λ old new. old ≡ tables_of s → new ≡ tables_of last) before.keeper.tables now.keeper.tables (tables_of s) told leads.rows in
    on.1 ∙ ap Some (on.2 refl)

-- a run that left the tables, and made no exchange, did nothing
did_nothing : (course : Course) (before now : Seen) (s : State) → IsValid s → before.keeper.tables ≡ Some (tables_of s)
    → Leaves before now → Makes course before now s [] s → Did course before now s
did_nothing course before now s valid told leaves makes = record {
  own = [];
  last = s;
  released = [];
  makes = makes;
  valid = valid;
  told = left_as_it_was before now s told leaves;
  answers = (refl, refl);
}

-- what one run did
did : (course : Course) (words : List (List ℕ)) (before now : Seen) (n : ℕ) (s : State) → IsValid s
    → before.keeper.tables ≡ Some (tables_of s) → Runs course words before now n → Did course before now s
did unread words before now n s valid told runs = did_nothing unread before now s valid told runs.0 (refl, refl)
did not_a_command words before now n s valid told runs = did_nothing not_a_command before now s valid told runs.1 (refl, refl)
did (not_opened refusal.KeeperFault) words before now n s valid told runs =
    did_nothing (not_opened refusal.KeeperFault) before now s valid told runs.1 (refl, refl)
did (not_opened refusal.Memory) words before now n s valid told runs =
    did_nothing (not_opened refusal.Memory) before now s valid told runs.1 (refl, refl)
did (not_opened (refusal.BadRow bad)) words before now n s valid told runs =
    did_nothing (not_opened (refusal.BadRow bad)) before now s valid told runs.1 (refl, refl)
did (answered how count) words before now n s valid told runs =
    let opened = runs.3 in
    let over = opened_over before now s opened told in
    let session = opened.ran.session s valid over.0 in
    let here = world_of opened.library opened.opened in
    let there = world_of opened.ran.library_now now in record {
      own = answered_all session.exchanges;
      last = session.made.last;
      released = session.made.released;
      makes = (
        runs.1,
        opened.opened,
        opened.opens,
        opened.unwritten,
        opened.library,
        opened.ran.library_now,
        session,
        refl,
        refl,
      );
      valid = session.made.leads.keeps.valid;
      told = led_told s session.made.last here there session.made.leads over.1;
      answers = session.made.answers;
    }
did (served end connections) words before now n s valid told runs =
    let opened = runs.4 in
    let requests = runs.2 in
    let over = opened_over before now s opened told in
    let from = opened.ran.serves s valid over.0 in
    let here = world_of opened.library opened.opened in
    let there = world_of opened.ran.library_now now in record {
      own = exchanges_in requests s connections from.last here there from.in_turn;
      last = from.last;
      released = released_in requests s connections from.last here there from.in_turn;
      makes = (requests, opened.opened, opened.opens, opened.library, opened.ran.library_now, from.in_turn, refl);
      valid = from.leads.keeps.valid;
      told = led_told s from.last here there from.leads over.1;
      answers = in_turn_answers requests s connections from.last here there from.in_turn;
    }

-- The requests of all the runs are answered from a valid state with the first tables, as one list.
pub runs_answer : (t : Tables) (runs : List Run) (s : State) → IsValid s → t ≡ tables_of s → FollowOn t runs
    → (exchanges : List Exchange) × (last : State) × (released : List ℕ) × MakeInTurn runs s exchanges last
    × Answers s exchanges last released
runs_answer t [] s valid is follow = ([], s, [], (refl, refl), (refl, refl))
runs_answer t (r ∷ rs) s valid is follow =
    let own = did r.course r.words r.before r.now r.status s valid (follow.1 ∙ ap Some is) follow.0 in
    let same : follow.2 ≡ tables_of own.last = cc (follow.3, own.told) in
    let later = runs_answer follow.2 rs own.last own.valid same follow.4 in (
      own.own ++ later.0,
      later.1,
      own.released ++ later.2,
      (own.own, later.0, own.last, own.makes, own.told, later.3, refl),
      Answers-join s own.last later.1 own.own later.0 own.released later.2 own.answers later.4,
    )

-- So of all requests with one token, whichever runs bring them, one at most changes the library.
pub runs_once : (t : Tables) (runs : List Run) (s : State) (valid : IsValid s) (is : t ≡ tables_of s) (follow : FollowOn t runs)
    (token : List ℕ)
    → ChangesOnce token s (runs_answer t runs s valid is follow).0 (runs_answer t runs s valid is follow).1
    (runs_answer t runs s valid is follow).2 (runs_answer t runs s valid is follow).4
runs_once t runs s valid is follow token =
    let all = runs_answer t runs s valid is follow in accepted_once s all.0 all.1 all.2 token all.4
