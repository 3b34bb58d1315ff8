-- A turn goes by the outcome of its step: on to the next constraint, with a change noted or not, or out with a negative loop. A round that changed nothing has settled the
-- distances, and one that changed some leaves the rest to the rounds behind it.
use Rattle.std.proofs.Common.{◌≡◌, sym, ◌∙◌, arith, add-one, ◌+◌, ◌-◌, ◌<◌, ◌≤◌, ℕ, Bool, true, false, ◌||◌, Ok, Err, List, [], ◌∷◌, map, length, get_or, drop, drop-cons, drop_of_length-le}
use Prim.Native.Nat.{suc}
use Rattle.std.proofs.Math.Option.{Option}
use Rattle.std.proofs.lemmas.Result.{err_from_is_err_and}
use Rattle.model.specs.ConstraintLaws.{Within}
use Rattle.model.specs.Constraints.{Constraint}
use Rattle.model.specs.Relaxing.{settled_within}
use Rattle.model.specs.RelaxingLaws.{Midway, midway_keeps, midway_lowers, midway_refuses, unchanged_settles, changed_goes_on}
use Rattle.constraints.specs.declared.Constraint.{Constraint as Entry}
use Rattle.constraints.specs.Entries.{blank, meaning}
use Rattle.relaxing.specs.StepLaws.{Tells, step_tells, each_entry}
use Rattle.relaxing.specs.Steps.{settled_as}
use Rattle.relaxing.proofs.relax.Goals as goal

-- a step's own constraint behind it, with a change noted where it made one
noted : {ks rest : List Constraint} {d e g : List ℕ} {k : Entry} (changed lowers : Bool) → Midway ks d (meaning k ∷ rest) e changed → Tells k e (Ok lowers) g
    → Midway ks d rest g (changed || lowers)
noted true true m told = midway_lowers m told.0 told.1
noted true false m told = rw told.1 (midway_keeps m told.0)
noted false true m told = midway_lowers m told.0 told.1
noted false false m told = rw told.1 (midway_keeps m told.0)

-- within a round over the constraints ks that began at d
module _ (ks : List Constraint) (ys : List Entry) (d : List ℕ) (i : ℕ) (e : List ℕ) (changed : Bool) (m : Midway ks d (map meaning (drop i ys)) e changed) where
  -- the constraint at i is the next one
  ahead : i < length ys → Midway ks d (meaning (get_or ys i blank) ∷ map meaning (drop (i + 1) ys)) e changed
  ahead more = rw add-one (rw (drop-cons ys i blank more) at m)

  -- behind the last
  all_relaxed : length ys ≤ i → Midway ks d [] e changed
  all_relaxed end = rw (drop_of_length-le ys end) at m

-- a round that is due is the first of the rounds left
due_now : (n round : ℕ) (ks : List Constraint) (d : List ℕ) (x : Option (List ℕ)) → round < n → settled_within (n - round) ks d ≡ x
    → settled_within (suc (n - (round + 1))) ks d ≡ x
due_now n round ks d x due h = let before : n - round ≡ suc (n - (round + 1)) = omega arith in rw (sym before) h

pub lower-requires : goal.lower-requires
lower-requires c =
    let turn = c.loop-constraint in
    rw turn.invariant.0 (each_entry (Within (length c.args.distances.now)) c.args.list.now c.requires turn.constraint-index c.loop-constraint-test.true)

pub loop-constraint-preserved : goal.loop-constraint-preserved
loop-constraint-preserved c =
    let ys = c.args.list.now in
    let turn = c.loop-constraint in
    let next = ahead (map meaning ys) ys c.rounds.distances turn.constraint-index turn.distances turn.changed turn.invariant.1 c.loop-constraint-test.true in
    let told = step_tells (get_or ys turn.constraint-index blank) turn.distances (Ok c.in_ok-changed.field-0) c.lower.new.distances c.in_ok-changed.ensures in
    (omega arith, noted turn.changed c.in_ok-changed.field-0 next told)

pub returns-in_err-changed : goal.returns-in_err-changed
unfolding settled_as
returns-in_err-changed c =
    let ys = c.args.list.now in
    let turn = c.loop-constraint in
    let next = ahead (map meaning ys) ys c.rounds.distances turn.constraint-index turn.distances turn.changed turn.invariant.1 c.loop-constraint-test.true in
    let told = step_tells (get_or ys turn.constraint-index blank) turn.distances (Err c.in_err-changed.field-0.0) c.lower.new.distances c.in_err-changed.ensures in
    let refuses = midway_refuses next (length c.args.distances.now - (c.rounds.counter + 1)) told in
    let passed_on = err_from_is_err_and c.from_residual.result c.from_residual.ensures.1 in
    (rw passed_on.1 (sym (due_now _ c.rounds.counter (map meaning ys) c.rounds.distances _ (omega arith) c.rounds.invariant.1) ∙ refuses), omega arith)

pub returns-then-not-changed : goal.returns-then-not-changed
unfolding settled_as
returns-then-not-changed c =
    let ys = c.args.list.now in
    let turn = c.loop-constraint in
    let relaxed = all_relaxed (map meaning ys) ys c.rounds.distances turn.constraint-index turn.distances turn.changed turn.invariant.1 c.loop-constraint-test.false in (
      sym (due_now _ c.rounds.counter (map meaning ys) c.rounds.distances _ (omega arith) c.rounds.invariant.1) ∙ unchanged_settles _ (rw c.if-not-changed.true at relaxed),
      turn.invariant.0,
    )

pub rounds-preserved : goal.rounds-preserved
rounds-preserved c =
    let ys = c.args.list.now in
    let turn = c.loop-constraint in
    let relaxed = all_relaxed (map meaning ys) ys c.rounds.distances turn.constraint-index turn.distances turn.changed turn.invariant.1 c.loop-constraint-test.false in (
      turn.invariant.0,
      sym (changed_goes_on _ (rw c.if-not-changed.false at relaxed)) ∙ due_now _ c.rounds.counter (map meaning ys) c.rounds.distances _ (omega arith) c.rounds.invariant.1,
    )

pub returns : goal.returns
unfolding settled_within settled_as
returns c = let none_left : length c.args.distances.now - c.rounds.counter ≡ 0 = omega arith in
    (sym (rw none_left at c.rounds.invariant.1), c.rounds.invariant.0)
