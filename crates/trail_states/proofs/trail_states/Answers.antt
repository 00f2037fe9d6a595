-- `trail_states` meets its contract: the flags are those of the shortest walks, the path follows them, and they are taken off again.
use mathlib.Core.Path.{◌≡◌, refl, ◌∙◌}
use native.Mathlib.Omega.{arith}
use lib.ListN.{length, take, drop, length-take}
use mathlib.Core.List.{◌++◌}
use Rattle.std.proofs.lemmas.List.{take-append-le, take_all}
use Rattle.theory.specs.Marked.{step}
use Rattle.search.proofs.Flags.{level_small}
use Rattle.search.proofs.Follow.{steered_of}
use Rattle.trail_states.proofs.Trail.{told_aims, trail_is}
use Rattle.trail_states.proofs.trail_states.Goals as goal

pub returns : goal.returns
returns c =
    let p = c.requires in
    let a = c.args in
    let F = c.flag_all.ensures a.start in
    let E = c.clear_flags.ensures a.distance.now (level_small p.4) F.raised in
    let l : length (take a.steps a.path.now) ≡ a.steps = simp length-take (omega (arith, p.2)) in (
      E,
      λ Y K.
          let S = steered_of F refl (step Y) Y.forbidden (told_aims K p.5.tables p.0) in
          trail_is K (c.trace.new.path ++ drop a.steps a.path.now) F.raised.long
          (take-append-le a.steps c.trace.new.path (drop a.steps a.path.now) (omega (arith, c.trace.auto.path))
          ∙ (take_all a.steps c.trace.new.path (omega (arith, c.trace.auto.path)) ∙ (rw l at (c.trace.ensures (step Y) Y.forbidden)) S)),
    )
