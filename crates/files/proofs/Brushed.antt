-- A lesson that is brushed, every bounce forgiven, gets the answers of the clean one but for odd channels and counts (request K5); so its rows are
-- the same bytes, and so is its image where every count is 0 at its end (request K6).
-- Assumes nothing.
use Prim.Native.Nat.{ℕ, suc, ◌+◌, ◌≤◌, ◌<◌}
use native.Mathlib.Omega.{arith}
use mathlib.Core.Bool.{Bool, true, false, cond}
use mathlib.Core.List.{List, [], ◌∷◌, ◌++◌, map}
use mathlib.Core.Logic.{◌↔◌}
use mathlib.Core.Path.{◌≡◌, refl, sym, ap, ap₂, subst, subst⁻¹, ◌∙◌}
use lib.Dec.{T, eqb, eqb→eq}
use lib.ListN.{length, length-map, get_or, get_or-map}
use Rattle.common.specs.Lists.{each_from, Each}
use Rattle.common.proofs.Each.{each_by_index}
use Rattle.voter.specs.declared.Voter.{Voter}
use Rattle.voter.specs.declared.Channels.TheVariants.{All}
use Rattle.voter.specs.Voting.{uncounted, fresh_with, value_of}
use Rattle.voter.specs.Runs.{Reading, odd_in, majority, agree, heard, ThreeOdd}
use Rattle.voter.proofs.Laws.{all_were_valid, value_is_of_the_majority}
use Rattle.voter.proofs.Kept.{no_odd_agrees}
use Rattle.voter.proofs.InARow.{all_valid_exactly}
use Rattle.controller.specs.declared.State.{State}
use Rattle.controller.specs.declared.Core.{Core}
use Rattle.controller.specs.Answers.{Answer}
use Rattle.controller.specs.Votes.{handle, sensor, three_from, some_invalid, sight_of, aimed, on_ground, votes_at, all_voted}
use Rattle.controller.specs.Stages.{core_step, elapsed_of, turned, in_force, accepted}
use Rattle.controller.specs.Steps.{refusal_at, refusal_of, step_at, step_of}
use Rattle.controller.specs.Start.{started_at}
use Rattle.controller.specs.Lamps.{green_of, neither_at, orange_of, lights_of, shown_of}
use Rattle.controller.specs.Samples.{Row, answers, after}
use Rattle.laws.specs.Reached.{Reached}
use Rattle.laws.specs.Reached.Reached.{started, step}
use Rattle.laws.specs.Times.{next}
use Rattle.laws.specs.Bounces.{sensor_at, reading_at, readings_at, AllValid, AllQuiet, CountsAre0}
use Rattle.laws.proofs.Stages.{stages, core_stages}
use Rattle.laws.proofs.Lifted.{core_on, step_keeps, votes_length, reached_is_allowed}
use Rattle.laws.proofs.Bounces.{hears_the_accepted}
use Rattle.laws.proofs.Counts.{counts_tell, agreed_accepted}
use Rattle.laws.proofs.Sometimes.{after_is_reached}
use Rattle.image.specs.Items.{sensor_count}
use Rattle.image.specs.Images.{image_of}
use Rattle.lesson.specs.Replay.{resumed_of}
use Rattle.handing.specs.Handing.{saved_of}
use Rattle.handing.proofs.Saving.{image_left_lem}
use Rattle.files.specs.Left.{left_of}
use Rattle.files.specs.Traces.{Body, Bears, body_of, file_of, bodies_to}
use Rattle.files.proofs.Traces.{what_it_bears_is_answered, left_of_it, row_0_was_read}
use Rattle.files.specs.Brushed.{Clean, SameButForBounces, Brushed, AllForgiven, count_dropped, counts_dropped, but_for_counts}
use Rattle.files.proofs.Dropped.{dropped_has_the_value, fresh_loses_nothing, invalid_too, no_count_no_loss_of_all}

-- ---- What votes say is not the counts

pub dropped_says : (i : ℕ) (vs : List Voter) → sensor i (map count_dropped vs) ≡ sensor i vs
unfolding sensor
dropped_says i vs =
    ap (λ (d : Voter). value_of (get_or (map count_dropped vs) i d)) (sym (fresh_loses_nothing false))
    ∙ ap value_of (get_or-map count_dropped vs i (fresh_with false))
    ∙ dropped_has_the_value (get_or vs i (fresh_with false))

dropped_seen : (vs : List Voter) → sight_of (map count_dropped vs) ≡ sight_of vs
unfolding sight_of three_from some_invalid
dropped_seen vs = simp (dropped_says, invalid_too)

-- ---- A vote

-- Every channel of every sensor is valid.
abbrev pub EachValid : List Voter → Type 0
EachValid = Each (λ (v : Voter). v.channels ≡ All)

same_heard : (v w : Voter) (r q : Reading) → majority r ≡ majority q → (heard v r).channels ≡ All → (heard w q).channels ≡ All
    → count_dropped (heard v r) ≡ count_dropped (heard w q)
same_heard v w r q same all other =
    ap₂ uncounted (all ∙ sym other)
    (value_is_of_the_majority v (all_were_valid v r.0 r.1 r.2 all) r.0 r.1 r.2
    ∙ same
    ∙ sym (value_is_of_the_majority w (all_were_valid w q.0 q.1 q.2 other) q.0 q.1 q.2))

all_heard : (bytes others : List ℕ) → ((i : ℕ) → i < sensor_count → majority (reading_at i bytes) ≡ majority (reading_at i others))
    → (k : ℕ) (vs ws : List Voter) → k + length vs ≤ sensor_count → length vs ≡ length ws
    → EachValid (each_from (votes_at bytes) k vs) → EachValid (each_from (votes_at others) k ws)
    → map count_dropped (each_from (votes_at bytes) k vs) ≡ map count_dropped (each_from (votes_at others) k ws)
unfolding each_from
all_heard bytes others same k [] [] some long all other = refl
all_heard bytes others same k [] (w ∷ ws) some long all other = absurd (omega arith)
all_heard bytes others same k (v ∷ vs) [] some long all other = absurd (omega arith)
all_heard bytes others same k (v ∷ vs) (w ∷ ws) some long all other =
    ap₂ (λ (x : Voter) (xs : List Voter). x ∷ xs) (same_heard v w (reading_at k bytes) (reading_at k others) (same k (omega arith)) all.0 other.0)
    (all_heard bytes others same (suc k) vs ws (omega arith) (omega arith) all.1 other.1)

-- ---- Channels that are valid were valid

valid_before_a_vote : (bytes : List ℕ) (k : ℕ) (vs : List Voter) → EachValid (each_from (votes_at bytes) k vs) → EachValid vs
unfolding each_from
valid_before_a_vote bytes k [] all = tt
valid_before_a_vote bytes k (v ∷ vs) all = (all_were_valid v _ _ _ all.0, valid_before_a_vote bytes (suc k) vs all.1)

pub valid_before : (s : State) (rows : List Row) → EachValid (after s rows).voters → EachValid s.voters
unfolding after all_voted stages
valid_before s [] all = all
valid_before s (r ∷ rows) all =
    step_keeps (λ (t : State). EachValid t.voters → EachValid s.voters) s r.0 r.1
    (valid_before_a_vote r.1 0 s.voters) (λ before. before)
    (valid_before (next s r) rows all)

-- ---- A step

-- The core looks at votes without their counts.
dropped_turned : (vs ws : List Voter) → turned (map count_dropped vs) (map count_dropped ws) ≡ turned vs ws
unfolding turned
dropped_turned vs ws = rw (dropped_says handle vs, dropped_says handle ws)

dropped_ground : (vs : List Voter) → on_ground (map count_dropped vs) ≡ on_ground vs
unfolding on_ground three_from
dropped_ground vs = simp dropped_says

dropped_aimed : (vs : List Voter) → aimed (map count_dropped vs) ≡ aimed vs
unfolding aimed
dropped_aimed vs = rw (dropped_says handle vs)

-- The core's step on votes without their counts.
abbrev core_by : ℕ → List Voter → List Voter → Core → Core
core_by elapsed vs votes c =
    let dropped : List Voter = map count_dropped votes in
    core_step elapsed (turned (map count_dropped vs) dropped) (in_force dropped c) (sight_of dropped) c

core_by_lem : (s : State) (stamp : ℕ) (bytes : List ℕ) → core_on s stamp bytes ≡ core_by (elapsed_of s.stamp stamp) s.voters (all_voted bytes s.voters) s.core
core_by_lem s stamp bytes =
    let votes : List Voter = all_voted bytes s.voters in
    rw (dropped_turned s.voters votes, dropped_aimed votes, dropped_ground votes, dropped_seen votes)

dropped_accepted : (s : State) (stamp : ℕ) (bytes : List ℕ)
    → counts_dropped (accepted s stamp bytes) ≡ record { stamp = stamp; voters = map count_dropped (all_voted bytes s.voters); core = core_on s stamp bytes }
unfolding stages core_stages counts_dropped
dropped_accepted s stamp bytes = refl

module _
    (s t : State) (a b : ℕ) (bytes others : List ℕ)
    (eighteen : length s.voters ≡ sensor_count)
    (alike : counts_dropped s ≡ counts_dropped t) (times : a ≡ b) (same : SameButForBounces bytes others) where
  same_stamp : s.stamp ≡ t.stamp
  unfolding counts_dropped
  same_stamp = ap (λ (u : State). u.stamp) alike

  same_voters : map count_dropped s.voters ≡ map count_dropped t.voters
  unfolding counts_dropped
  same_voters = ap (λ (u : State). u.voters) alike

  same_core : s.core ≡ t.core
  unfolding counts_dropped
  same_core = ap (λ (u : State). u.core) alike

  same_refusal : refusal_of s a bytes ≡ refusal_of t b others
  unfolding refusal_at
  same_refusal = rw (same_stamp, times, same.long, same.over)

  same_accepted : EachValid (accepted s a bytes).voters → EachValid (accepted t b others).voters
      → counts_dropped (accepted s a bytes) ≡ counts_dropped (accepted t b others)
  unfolding all_voted stages
  same_accepted all other =
      let long : length s.voters ≡ length t.voters =
      sym (length-map s.voters count_dropped) ∙ ap length same_voters ∙ length-map t.voters count_dropped
      in
      let votes = all_heard bytes others same.majorities 0 s.voters t.voters (omega arith) long all other in
      let core : core_on s a bytes ≡ core_on t b others =
      core_by_lem s a bytes ∙ rw (same_stamp, times, same_voters, votes, same_core) (sym (core_by_lem t b others))
      in
      dropped_accepted s a bytes ∙ rw (core, votes, times) (sym (dropped_accepted t b others))

  -- A step of both, where no channel is struck by it.
  pub same_step : EachValid (step_of s a bytes).state.voters → EachValid (step_of t b others).state.voters
      → but_for_counts (step_of s a bytes) ≡ but_for_counts (step_of t b others)
  unfolding step_at
  same_step all other = cc (same_refusal, by (eqb (refusal_of t b others) 0) (rw same_refusal at all) other)
    where
      by : (is_taken : Bool)
          → EachValid (cond is_taken (accepted s a bytes) s).voters
          → EachValid (cond is_taken (accepted t b others) t).voters
          → counts_dropped (cond is_taken (accepted s a bytes) s) ≡ counts_dropped (cond is_taken (accepted t b others) t)
      by true all other = same_accepted all other
      by false all other = alike

-- ---- A whole lesson

-- There are as many sensors after any samples.
pub as_many : (s : State) (rows : List Row) → length (after s rows).voters ≡ length s.voters
unfolding after stages
as_many s [] = refl
as_many s (r ∷ rows) =
    as_many (next s r) rows ∙
    step_keeps (λ (t : State). length t.voters ≡ length s.voters) s r.0 r.1 (votes_length r.1 s.voters) refl

all_the_same : (s t : State) (rows others : List Row) → length s.voters ≡ sensor_count → counts_dropped s ≡ counts_dropped t → Brushed rows others
    → EachValid (after s rows).voters → EachValid (after t others).voters
    → (map but_for_counts (answers s rows) ≡ map but_for_counts (answers t others)) ×
    (counts_dropped (after s rows) ≡ counts_dropped (after t others))
unfolding Brushed answers after
all_the_same s t [] [] eighteen alike brushed all other = (refl, alike)
all_the_same s t [] (q ∷ qs) eighteen alike brushed all other = absurd brushed
all_the_same s t (r ∷ rs) [] eighteen alike brushed all other = absurd brushed
all_the_same s t (r ∷ rs) (q ∷ qs) eighteen alike brushed all other =
    let first =
    same_step s t r.0 q.0 r.1 q.1 eighteen alike brushed.0 brushed.1
    (valid_before (next s r) rs all) (valid_before (next t q) qs other)
    in
    let more = all_the_same (next s r) (next t q) rs qs (as_many s (r ∷ []) ∙ eighteen) (ap (λ (a : Answer). a.state) first) brushed.2 all other in
    (cc (first, more.0), more.1)

-- Every bounce is forgiven exactly if all channels are valid at the end.
pub forgiven_exactly : (s : State) → AllQuiet s → (rows : List Row) → AllForgiven s rows ↔ AllValid (after s rows)
forgiven_exactly s quiet rows = (λ forgiven i h. (at i (there i h)).1 (forgiven i (there i h)), λ valid i h. (at i h).0 (valid i (omega (arith, as_many s rows))))
  where
    there : (i : ℕ) → i < length (after s rows).voters → i < length s.voters
    there i h = omega (arith, as_many s rows)

    at : (i : ℕ) → i < length s.voters
        → ((sensor_at i (after s rows)).channels ≡ All) ↔ ((k : ℕ) → ThreeOdd k (sensor_at i s) (readings_at i s rows) → ⊥)
    at i h =
        subst⁻¹ (λ (v : Voter). (v.channels ≡ All) ↔ ((k : ℕ) → ThreeOdd k (sensor_at i s) (readings_at i s rows) → ⊥)) (hears_the_accepted i s h rows)
        (all_valid_exactly (sensor_at i s) (quiet i h).0 (quiet i h).1 (readings_at i s rows))

pub forgiven_is_valid : (s : State) → AllQuiet s → (rows : List Row) → AllForgiven s rows → EachValid (after s rows).voters
forgiven_is_valid s quiet rows forgiven =
    each_by_index (λ (v : Voter). v.channels ≡ All) (fresh_with false) (after s rows).voters ((forgiven_exactly s quiet rows).0 forgiven)

-- ---- A clean lesson has no bounce to forgive.

-- In none of these readings a channel is the odd one.
NoneOdd : List Reading → Type 0
NoneOdd [] = Unit {0}
NoneOdd (r ∷ rs) = (odd_in r ≡ 0) × NoneOdd rs

none_odd : (i : ℕ) → i < sensor_count → (s : State) (rows : List Row) → Clean rows → NoneOdd (readings_at i s rows)
unfolding readings_at NoneOdd
none_odd i within s [] clean = tt
none_odd i within s (r ∷ rows) clean =
    by (eqb (step_of s r.0 r.1).refusal 0) (none_odd i within (next s r) rows clean.1)
  where
    by : (is_taken : Bool) → NoneOdd (readings_at i (next s r) rows)
        → NoneOdd (cond is_taken (reading_at i r.1 ∷ readings_at i (next s r) rows) (readings_at i (next s r) rows))
    by true more = (clean.0 i within, more)
    by false more = more

not_odd : (earlier : List Reading) (r : Reading) (later : List Reading) → NoneOdd (earlier ++ r ∷ later) → odd_in r ≡ 0
unfolding NoneOdd
not_odd [] r later none = none.0
not_odd (q ∷ earlier) r later none = not_odd earlier r later none.1

pub clean_is_forgiven : (s : State) → length s.voters ≡ sensor_count → (rows : List Row) → Clean rows → AllForgiven s rows
clean_is_forgiven s eighteen rows clean i within k row =
    let three = row.three in
    let none = subst NoneOdd three.in_a_row (none_odd i (omega arith) s rows clean) in
    let quiet = not_odd three.earlier three.first (three.second ∷ three.third ∷ three.later) none in
    let odd = eqb→eq (odd_in three.first) k row.odd.0 in
    omega (arith, row.channel, quiet, odd)

-- And it leaves every count at 0.
pub clean_leaves_no_count : (s : State) → Reached s → CountsAre0 s → (rows : List Row) → Clean rows → CountsAre0 (after s rows)
unfolding after
clean_leaves_no_count s reached none [] clean = none
clean_leaves_no_count s reached none (r ∷ rows) clean =
    clean_leaves_no_count (next s r) (step reached r.0 r.1)
    (step_keeps CountsAre0 s r.0 r.1 (λ i h. (agreed_accepted s reached r.0 r.1 agreed i h).count) none) rows clean.1
  where
    agreed : (i : ℕ) → i < length s.voters → T (agree (sensor_at i s).channels (reading_at i r.1))
    agreed i h = no_odd_agrees (sensor_at i s).channels (reading_at i r.1) (clean.0 i (omega (arith, (reached_is_allowed s reached).sensors)))

-- ---- A lesson and the same lesson brushed

module _
    (s : State) (reached : Reached s) (quiet : AllQuiet s) (rows others : List Row) (brushed : Brushed rows others)
    (forgiven : AllForgiven s rows) (other_forgiven : AllForgiven s others) where
  both : (map but_for_counts (answers s rows) ≡ map but_for_counts (answers s others)) ×
      (counts_dropped (after s rows) ≡ counts_dropped (after s others))
  both = all_the_same s s rows others (reached_is_allowed s reached).sensors refl brushed (forgiven_is_valid s quiet rows forgiven) (forgiven_is_valid s quiet others other_forgiven)

  -- The answers are the same but for the counts, from the first sample to the last, ..
  pub brushed_answers_the_same : map but_for_counts (answers s rows) ≡ map but_for_counts (answers s others)
  brushed_answers_the_same = both.0

  -- .. and where every count is 0 at the end of both, so is the controller that is left.
  pub brushed_leaves_the_same : CountsAre0 (after s rows) → CountsAre0 (after s others) → after s rows ≡ after s others
  brushed_leaves_the_same none other_none =
      sym (no_count_no_loss_of_all (after s rows) (counts_tell (after s rows) (after_is_reached s reached rows) none))
      ∙ both.1
      ∙ no_count_no_loss_of_all (after s others) (counts_tell (after s others) (after_is_reached s reached others) other_none)

-- ---- Whole files

-- What a row shows is not the counts.
pub dropped_shows : (s : State) → shown_of (counts_dropped s) ≡ shown_of s
unfolding shown_of lights_of green_of orange_of neither_at three_from counts_dropped
dropped_shows s = simp dropped_says

shows_the_same : (answers : List Answer) → map body_of answers ≡ map body_of (map but_for_counts answers)
shows_the_same [] = refl
shows_the_same (a ∷ more) = cc (dropped_shows a.state, shows_the_same more)

-- Two inputs that bear a lesson and the same lesson brushed, with any row 0 of the same stamp: from a reached controller at which all channels
-- are valid and every count is 0 their rows are the same bytes where they end in the same way, and so are their images where every count is 0
-- behind both.
module _
    (s : State) (reached : Reached s) (quiet : AllQuiet s)
    (start again : Row) (rows others : List Row) (times : start.0 ≡ again.0) (brushed : Brushed rows others)
    (forgiven : AllForgiven (started_at start.0 s) rows) (other_forgiven : AllForgiven (started_at start.0 s) others)
    (input other : List ℕ) where
  abbrev from : State
  from = started_at start.0 s

  still_quiet : AllQuiet from
  unfolding started_at
  still_quiet = quiet

  same_bodies : bodies_to s (start ∷ rows) ≡ bodies_to s (again ∷ others)
  same_bodies =
      rw (← times)
      (ap (λ (bs : List Body). (0, shown_of from) ∷ bs)
      (shows_the_same (answers from rows)
      ∙ ap (map body_of) (brushed_answers_the_same from (started reached start.0) still_quiet rows others brushed forgiven other_forgiven)
      ∙ sym (shows_the_same (answers from others))))

  pub brushed_file : (ending : List ℕ) → Bears input (start ∷ rows) ending → Bears other (again ∷ others) ending → resumed_of s input ≡ resumed_of s other
  brushed_file ending bears other_bears =
      what_it_bears_is_answered s input (start ∷ rows) ending bears
      ∙ ap (λ (bs : List Body). file_of bs ++ ending) same_bodies
      ∙ sym (what_it_bears_is_answered s other (again ∷ others) ending other_bears)

  pub brushed_image : (ending other_ending : List ℕ) → Bears input (start ∷ rows) ending → Bears other (again ∷ others) other_ending
      → CountsAre0 (after from rows) → CountsAre0 (after from others)
      → saved_of s input ≡ saved_of s other
  unfolding saved_of
  brushed_image ending other_ending bears other_bears none other_none =
      image_left_lem (left_of s input) (row_0_was_read s input start rows ending bears)
      ∙ ap image_of (left_of_it s input start rows ending bears)
      ∙ ap image_of (brushed_leaves_the_same from (started reached start.0) still_quiet rows others brushed forgiven other_forgiven none other_none)
      ∙ sym
      (image_left_lem (left_of s other) (row_0_was_read s other again others other_ending other_bears)
      ∙ ap image_of (left_of_it s other again others other_ending other_bears ∙ ap (λ (stamp : ℕ). after (started_at stamp s) others) (sym times)))
