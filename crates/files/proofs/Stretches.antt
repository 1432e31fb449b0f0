-- Some rows of a file as a run of the controller: over the samples that were accepted, with the same time, to the same state.
-- Assumes nothing.
use Prim.Native.Nat.{ℕ, ◌+◌, ◌≤◌}
use native.Mathlib.Omega.{arith}
use mathlib.Core.Bool.{true}
use mathlib.Core.List.{List, [], ◌∷◌, ◌++◌}
use mathlib.Core.Path.{◌≡◌, refl, sym, ap, subst, ◌∙◌}
use borrow.Author.Tests.{eqb-true, eqb-false}
use lib.Dec.{eqb}
use Rattle.lines.proofs.Steps.{either}
use Rattle.controller.specs.declared.State.{State}
use Rattle.controller.specs.Answers.{Answer}
use Rattle.controller.specs.Stages.{elapsed_of}
use Rattle.controller.specs.Steps.{step_of}
use Rattle.controller.specs.Samples.{Row, after}
use Rattle.controller.proofs.Refusals.{refused_stays}
use Rattle.laws.specs.Reached.{Reached}
use Rattle.laws.proofs.Stages.{stages}
use Rattle.laws.proofs.Lifted.{taken_is_accepted}
use Rattle.settling.specs.Runs.{next, is_taken, elapsed_in}
use Rattle.reading.specs.declared.Came.{Came}
use Rattle.reading.specs.declared.Came.TheVariants.{Nothing, Answered, Refused}
use Rattle.common.specs.Lists.{Each}
use Rattle.files.specs.Told.{Told, told, Linked}
use Rattle.files.specs.RowLaws.{NumberedBy, Numbered, OwnAnswer, OwnRow, AnsweredBy, AnsweredRight, Shows}
use Rattle.files.specs.RowLaws.OwnAnswer.{starts, steps}
use Rattle.files.specs.Stretches.{IsAnswered, elapsed_at, elapsed_over, state_after, Stretch}
use Rattle.files.proofs.Told.{rows_are_linked}
use Rattle.files.proofs.EachRow.{numbers_tell_the_place}
use Rattle.files.proofs.Laws.{Sound, sound}

-- ---- One row behind row 0

-- It leaves the state, or accepts a sample.
data Turn (t : Told) : Type 0 where
  still : t.after ≡ t.before → Turn t
  takes : (r : Row) → is_taken t.before r ≡ true → t.after ≡ next t.before r → Turn t

pub own_step : {before : State} {label stamp : ℕ} {sample : List ℕ} {a : Answer} → OwnAnswer before label stamp sample a → ¬ (label ≡ 0)
    → a ≡ step_of before stamp sample
own_step (starts stamp sample) other = absurd (other refl)
own_step (steps label stamp sample _) other = refl

step_turn : (t : Told) (label code : ℕ) → OwnRow t label code → ¬ (label ≡ 0) → Turn t
unfolding is_taken
step_turn t label code row other =
    let r : Row = (row.stamp, row.sample) in
    let answer = own_step row.own other in
    let same : t.after ≡ next t.before r = ap (λ (a : Answer). a.state) answer in
    let refusal = (step_of t.before row.stamp row.sample).refusal in
    either (eqb refusal 0)
    (λ e. takes r e same)
    (λ e. still (same ∙ refused_stays t.before row.stamp row.sample (eqb-false refusal 0 e)))

turn_by : (t : Told) (came : Came) → NumberedBy t.line came → AnsweredBy t came → 3 ≤ t.line → Turn t
turn_by t Nothing number answer late = still answer
turn_by t (Answered label code) number answer late = step_turn t label code answer (λ e. absurd (omega arith))
turn_by t (Refused at refusal) number answer late = still answer

turn : (t : Told) → Numbered t → AnsweredRight t → 3 ≤ t.line → Turn t
turn t number answer late = turn_by t t.came number answer late

-- ---- A run of samples for some rows

-- Each sample is accepted, and after it this is so.
abbrev pub AllTaken : (State → Type 0) → State → List Row → Type 0
AllTaken P s [] = Unit {0}
AllTaken P s (r ∷ rs) = (is_taken s r ≡ true) × P (next s r) × AllTaken P (next s r) rs

pub record Run (P : State → Type 0) (s : State) (rows : List Told) (samples : List Row) : Type 0 where
  pub taken : AllTaken P s samples
  pub time : elapsed_in s samples ≡ elapsed_over rows
  pub same : after s samples ≡ state_after s rows

pub stamp_of : (s : State) (r : Row) → is_taken s r ≡ true → (next s r).stamp ≡ r.0
unfolding is_taken stages
stamp_of s r e =
    ap (λ (t : State). t.stamp) (taken_is_accepted s r.0 r.1 (eqb-true (step_of s r.0 r.1).refusal 0 e))

module _ (P : State → Type 0) (t : Told) (rows : List Told) (samples : List Row) (run : Run P t.after rows samples) where
  run_still : t.after ≡ t.before → Run P t.before (t ∷ rows) samples
  unfolding elapsed_over state_after elapsed_of
  run_still e =
      let moved : Run P t.before rows samples = subst (λ (s : State). Run P s rows samples) e run in
      let none : elapsed_at t ≡ 0 = rw e (omega arith) in
      record {
        taken = moved.taken;
        time = omega (arith, none, moved.time);
        same = moved.same ∙ ap (λ (s : State). state_after s rows) (sym e);
      }

  pub run_takes : (r : Row) → is_taken t.before r ≡ true → t.after ≡ next t.before r → P t.after
      → Run P t.before (t ∷ rows) (r ∷ samples)
  unfolding elapsed_in elapsed_over state_after after
  run_takes r taken e p =
      let s = t.before in
      let moved : Run P (next s r) rows samples = subst (λ (x : State). Run P x rows samples) e run in
      let stamp : r.0 ≡ t.after.stamp = sym (stamp_of s r taken) ∙ ap (λ (x : State). x.stamp) (sym e) in
      let here : elapsed_of s.stamp r.0 ≡ elapsed_at t = ap (elapsed_of s.stamp) stamp in
      record {
        taken = (taken, subst P e p, moved.taken);
        time = omega (arith, here, moved.time);
        same = moved.same ∙ ap (λ (x : State). state_after x rows) (sym e);
      }

-- ---- Rows of a file

-- What is so of each row.
pub record Fine (t : Told) : Type 0 where
  pub number : Numbered t
  pub right : AnsweredRight t
  pub from : Reached t.before
  pub to : Reached t.after

fine : (ts : List Told) → Each Numbered ts → Each Sound ts → Each Fine ts
fine [] ps qs = tt
fine (t ∷ ts) ps qs = (record { number = ps.0; right = qs.0.right; from = qs.0.from; to = qs.0.to }, fine ts ps.1 qs.1)

-- Behind some rows.
behind_front : (front ts : List Told) (line : ℕ) (s : State) → Linked line s (front ++ ts) → Each Fine (front ++ ts)
    → (line' : ℕ) × (s' : State) × Linked line' s' ts × Each Fine ts
behind_front [] ts line s links each = (line, s, links, each)
behind_front (t ∷ front) ts line s links each = behind_front front ts (line + 1) t.after links.2 each.1

-- The samples that were accepted.
samples_of : (P : State → Type 0) (rows back : List Told) (line : ℕ) (s : State) → 3 ≤ line
    → Linked line s (rows ++ back)
    → Each Fine (rows ++ back)
    → Each (Shows P) rows
    → (samples : List Row) × Run P s rows samples
unfolding elapsed_in elapsed_over state_after after
samples_of P [] back line s late links each is = ([], record { taken = tt; time = refl; same = refl })
samples_of P (t ∷ rows) back line s late links each is =
    by (turn t each.0.number each.0.right (omega (arith, links.0)))
    (samples_of P rows back (line + 1) t.after (omega arith) links.2 each.1 is.1) where
      by : Turn t → (samples : List Row) × Run P t.after rows samples → (samples : List Row) × Run P s (t ∷ rows) samples
      by (still e) others = (
        others.0,
        subst (λ (x : State). Run P x (t ∷ rows) others.0) links.1 (run_still P t rows others.0 others.1 e),
      )
      by (takes r taken e) others = (
        r ∷ others.0,
        subst (λ (x : State). Run P x (t ∷ rows) (r ∷ others.0)) links.1
            (run_takes P t rows others.0 others.1 r taken e is.0),
      )

-- ---- A stretch of rows

module _ (state : State) (reached : Reached state) (input : List ℕ) (first : Told) (rest : List Told) (stretch : Stretch state input first rest)
  where
    abbrev rows : List Told
    rows = first ∷ (rest ++ stretch.back)

    here : (line : ℕ) × (s : State) × Linked line s rows × Each Fine rows
    here =
        behind_front stretch.front rows 1 state (subst (Linked 1 state) stretch.are (rows_are_linked state input))
        (subst (Each Fine) stretch.are (fine (told state input) (numbers_tell_the_place state input) (sound state reached input)))

    pub first_fine : Fine first
    first_fine = here.3.0

    -- Behind a row that is answered they are a run of accepted samples.
    pub stretch_runs : (P : State → Type 0) (code : ℕ) → IsAnswered code first → Each (Shows P) rest
        → (samples : List Row) × Run P first.after rest samples
    stretch_runs P code row is =
        let on = subst (NumberedBy first.line) row.1 first_fine.number in
        samples_of P rest stretch.back (here.0 + 1) first.after (omega (arith, on, here.2.0)) here.2.2 here.3.1 is
