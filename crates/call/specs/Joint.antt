-- 02 (g): what the calls for plans with a joint reset refuse beside 1 to 8.
use Rattle.std.specs.Prelude.{Bool, cond, List, ℕ, eqb}
use Rattle.model.specs.declared.Model.{Model}
use Rattle.edge_walks.specs.Joint.{lacks_joint_reset}
use Rattle.call.specs.Call.{model_of, refusal}

-- "17 when a counted closed walk has no such edge", else 0
abbrev pub disjoint : Model → ℕ
disjoint m = cond (lacks_joint_reset m) 17 0

-- with touch steps a call takes every plan, and without only these
abbrev pub disjoint_for : Bool → Model → ℕ
disjoint_for touch m = cond touch 0 (disjoint m)

-- 1 to 8, then 17; 0 where the call goes on
unfoldable pub joint_refusal : List ℕ → List ℕ → ℕ
joint_refusal bytes lent = cond (eqb (refusal bytes lent) 0) (disjoint (model_of bytes)) (refusal bytes lent)
