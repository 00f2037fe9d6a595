-- `trail_writer::put_move` meets its contract, by the kinds of moves.
use mathlib.Core.Path.{ap, ◌∙◌}
use native.Mathlib.Omega.{arith}
use lib.ListN.{length, length-append}
use Rattle.theory.specs.Enumeration.{key}
use Rattle.theory.specs.StateGraph.{region_of}
use Rattle.theory.specs.Replay.{Move}
use Rattle.number.specs.Number.{spell, spell_all}
use Rattle.graph.specs.Plan.{automaton_of}
use Rattle.trail_numbers.specs.Numbers.{label_number}
use Rattle.replay.specs.Spelling.{move_numbers}
use Rattle.spelling.proofs.Lays.{lays_then, lays_as}
use Rattle.trail_writer.proofs.Moves.{flow_bytes, face_bytes}
use Rattle.trail_writer.proofs.put_move.Goals as goal

pub put_label-requires : goal.put_label-requires
put_label-requires c =
    let s = c.args.space.now in
    let m = s.plan.now.model in
    let k = c.in-Flow.ensures in (
      omega (arith, k.sound, s.plan.now.lawful.edges),
      omega (arith, ap (λ (v : Move). length (spell_all (move_numbers (automaton_of m) v))) k.value, ap length (flow_bytes m s.plan.now.lawful (label_number c.in-Flow.x)), c.requires.4),
    )

pub returns-in-Flow : goal.returns-in-Flow
returns-in-Flow c =
    let s = c.args.space.now in
    let m = s.plan.now.model in
    lays_as c.put_label.ensures
    (flow_bytes m s.plan.now.lawful (label_number c.in-Flow.x) ∙ ap (λ (v : Move). spell_all (move_numbers (automaton_of m) v)) c.in-Flow.ensures.value)

pub put-a-requires : goal.put-a-requires
put-a-requires c =
    let s = c.args.space.now in
    let m = s.plan.now.model in
    let q = c.args.q in (
      omega arith,
      omega (
        arith,
        ap (λ (v : Move). length (spell_all (move_numbers (automaton_of m) v))) c.in-Face.ensures.value,
        ap length (face_bytes m s.plan.now.lawful q),
        length-append (spell 2) (spell_all (key (region_of (automaton_of m) q))),
        c.requires.4,
      ),
    )

pub put_region-requires : goal.put_region-requires
put_region-requires c =
    let s = c.args.space.now in
    let m = s.plan.now.model in
    let q = c.args.q in (
      c.requires.2,
      omega (
        arith,
        ap (λ (v : Move). length (spell_all (move_numbers (automaton_of m) v))) c.in-Face.ensures.value,
        ap length (face_bytes m s.plan.now.lawful q),
        length-append (spell 2) (spell_all (key (region_of (automaton_of m) q))),
        c.put-a.ensures.end,
        c.requires.4,
      ),
    )

pub returns-in-Face : goal.returns-in-Face
returns-in-Face c =
    let s = c.args.space.now in
    let m = s.plan.now.model in
    lays_as (lays_then c.put-a.ensures c.put_region.ensures)
    (face_bytes m s.plan.now.lawful c.args.q ∙ ap (λ (v : Move). spell_all (move_numbers (automaton_of m) v)) c.in-Face.ensures.value)

pub put_touch-requires : goal.put_touch-requires
put_touch-requires c =
    let m = c.args.space.now.plan.now.model in
    let k = c.in-Touch.ensures in (
      c.requires.0,
      c.requires.2,
      k.sound,
      omega (arith, ap (λ (v : Move). length (spell_all (move_numbers (automaton_of m) v))) k.value, c.requires.4),
    )

pub returns-in-Touch : goal.returns-in-Touch
returns-in-Touch c =
    let m = c.args.space.now.plan.now.model in
    lays_as c.put_touch.ensures (ap (λ (v : Move). spell_all (move_numbers (automaton_of m) v)) c.in-Touch.ensures.value)
