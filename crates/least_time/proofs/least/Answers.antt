-- `least_time::least` meets its contract. The invariant: the least time among the states passed.
use native.Mathlib.Omega.{arith}
use Prim.Native.Nat.{◌*◌, ◌/◌}
use lib.ListN.{length, get_or}
use lib.Dec.{eqb}
use Rattle.search.proofs.Lowest.{least_none, least_more, least_rest}
use Rattle.least_time.proofs.Location.{in_location, before_none, after_none}
use Rattle.least_time.proofs.least.Goals as goal

pub loop-p-init : goal.loop-p-init
loop-p-init c =
    let a = c.args in
    least_none (λ q. eqb (q / a.regions) a.location) (λ q. get_or a.level.now q 0) (a.location * a.regions) (before_none a.regions a.location c.requires.0)

pub loop-p-preserved : goal.loop-p-preserved
loop-p-preserved c =
    let a = c.args in
    let l = c.loop-p in
    rw c.lower_distance-best.ensures (least_more (λ q. eqb (q / a.regions) a.location) (λ q. get_or a.level.now q 0) l.p (in_location a.regions a.location c.requires.0 l.p (omega arith) (omega arith)) l.invariant)

pub returns : goal.returns
returns c =
    let a = c.args in
    let l = c.loop-p in
    least_rest (λ q. eqb (q / a.regions) a.location) (λ q. get_or a.level.now q 0) l.p (length a.level.now) (omega arith) (λ p h b g. after_none a.regions a.location c.requires.0 l.p p (omega arith) h g) l.invariant
