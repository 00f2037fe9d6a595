-- The loop along the chain of a height.
use mathlib.Core.Path.{◌≡◌}
use mathlib.Core.List.{List, ◌∷◌}
use Prim.Native.Nat.{ℕ, suc, ◌+◌, ◌≤◌, ◌<◌}
use lib.ListN.{length, get_or}
use Rattle.theory.specs.Sheet.{height_of}
use Rattle.theory.specs.Adjacency.{Chain, Chains}
use Rattle.theory.proofs.Chains.{chain_cons, chain_nil}
use Rattle.model.specs.declared.Model.{Model}
use Rattle.graph.specs.States.{states}
use Rattle.fringe_ranks.specs.Ranks.{RanksAsked, RankedBelow, RankedUpto, StateRanked, heights_in}
use Rattle.fringe_ranks.proofs.Ranks.{sheet_long, fringe_state}
use Rattle.fringe_ranks.proofs.Heights.{heights_chain}
use Rattle.fringe_ranks.proofs.Ranking.{Ranking, ranking_start, ranking_below, ranking_state, ranking_turn, ranking_end}

-- from `link` on the chain leads through the states of height h without their ranks
pub record Along (m : Model) (sheet links : List ℕ) (h : ℕ) (ranks : List ℕ) (c link : ℕ) : Type 0 where
  pub rest : List ℕ
  pub onward : Chain links link rest
  pub ranking : Ranking m sheet h rest ranks c

pub along_start : {m : Model} {table first targets sheet flags heads links ranks : List ℕ} {h c : ℕ} → RanksAsked m table first targets sheet flags
    → Chains (heights_in sheet) heads links → h < length heads → RankedUpto m sheet h ranks c → Along m sheet links h ranks c (get_or heads h 0)
along_start {m} {sheet = sheet} {h = h} A C b U =
    let (l, k, are) = heights_chain sheet C h b in
    record { rest = l; onward = k; ranking = ranking_start l (λ p i. fringe_state A i) (rw (sheet_long A) at are) U }

module _ {m : Model} {sheet links : List ℕ} {h : ℕ} {ranks : List ℕ} {c link : ℕ} (L : Along m sheet links h ranks c link) where
  pub along_long : length ranks ≡ states m
  along_long = L.ranking.long

  pub along_end : link ≡ 0 → RankedUpto m sheet (h + 1) ranks c
  along_end e = ranking_end (rw (chain_nil L.onward e) at L.ranking)

  module _ (p : ℕ) (e : link ≡ suc p) where
    cons : (l : List ℕ) × (L.rest ≡ p ∷ l) × (p < length links) × (get_or links p 0 ≤ p) × Chain links (get_or links p 0) l
    cons = chain_cons L.onward p e

    now : Ranking m sheet h (p ∷ cons.0) ranks c
    now = rw cons.1 at L.ranking

    pub along_link : (p < length links) × (get_or links p 0 ≤ p)
    along_link = (cons.2, cons.3)

    pub along_state : p < states m
    along_state = (ranking_state now).0

    pub along_below : RankedBelow m sheet (height_of sheet p) ranks
    along_below = rw (ranking_state now).1 (ranking_below now)

    pub along_turn : {ranks' : List ℕ} {r : ℕ} → StateRanked m sheet ranks ranks' p c r → Along m sheet links h ranks' r (get_or links p 0)
    along_turn T = record { rest = cons.0; onward = cons.4; ranking = ranking_turn now T }
