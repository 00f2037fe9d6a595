-- Touch steps: the slots of a chain hold a point, and a flag stands for a location and a point.
use mathlib.Core.Path.{◌≡◌, refl, sym, ◌∙◌}
use mathlib.Core.Bool.{Bool, true}
use mathlib.Core.Logic.{◌⊎◌, inl, inr, ⊎_elim}
use mathlib.Core.List.Memᴰ
use mathlib.Core.List.{List, ◌∷◌, Memᴰ}
use Prim.Native.Nat.{ℕ, suc, ◌+◌, ◌*◌, ◌/◌, ◌%◌, ◌≤◌, ◌<◌}
use native.Mathlib.Omega.{arith}
use native.Mathlib.Decide.{ℕ_discrete}
use native.Mathlib.Nat.{lt_of_mul-lt-mul_right, mul-le-mul_right}
use lib.ListN.{length, get_or, set}
use lib.Seq.{get_or-set_other}
use Rattle.limits.specs.Limits.{slot_count, point_count}
use Rattle.shapes.specs.Layout.{corners_at, corners_in}
use Rattle.theory.proofs.Pairs.{pair_left, pair_right}
use Rattle.theory.specs.Adjacency.{Chain, Chains}
use Rattle.theory.proofs.Chains.{chain_cons, chain_nil}
use Rattle.search.specs.Queue.{Takes, TakesAll, Covers}
use Rattle.search.proofs.Queue.{takes_reached}
use Rattle.marking.specs.Tables.{RegionTables}
use Rattle.marking.specs.Corners.{AtPoint, Visits, Ready}
use Rattle.shapes.proofs.Parts.{corner_at}

-- ---- a point: the slots of its chain are those that hold it

-- from `next` on the chain leads through slots that hold v
pub record PointAt (corner link : List ℕ) (v next : ℕ) : Type 0 where
  pub rest : List ℕ
  pub onward : Chain link next rest
  pub holds : (s : ℕ) → Memᴰ s rest → (s < length corner) × (get_or corner s 0 ≡ v)

-- on a closed walk, at one of these slots
pub record AmongSlots (heights slots : List ℕ) (base q : ℕ) : Type 0 where
  pub slot : ℕ
  pub member : Memᴰ slot slots
  pub is : base + slot / slot_count ≡ q
  pub closed : get_or heights q 0 % 2 ≡ 1

module _ {corner head link : List ℕ} (C : Chains corner head link) (v : ℕ) (b : v < length head) where
  pub point_first : PointAt corner link v (get_or head v 0)
  point_first = let (l, c, m) = C.chain v b in record { rest = l; onward = c; holds = λ s. (m s).0 }

  pub point_all : {heights : List ℕ} {base : ℕ} (q : ℕ) → AtPoint corner heights base v q → AmongSlots heights point_first.rest base q
  unfolding point_first
  point_all q a = record { slot = a.slot; member = ((C.chain v b).2 a.slot).1 (a.below, a.holds); is = a.is; closed = a.closed }

module _ {corner link : List ℕ} {v next : ℕ} (P : PointAt corner link v next) where
  pub point_end : {heights : List ℕ} {base : ℕ} → next ≡ 0 → (q : ℕ) → AmongSlots heights P.rest base q → ⊥
  point_end e q t = Memᴰ.not-nil (rw (chain_nil P.onward e) at t.member)

  module _ (s : ℕ) (e : next ≡ suc s) where
    cons : (m : List ℕ) × (P.rest ≡ s ∷ m) × (s < length link) × (get_or link s 0 ≤ s) × Chain link (get_or link s 0) m
    cons = chain_cons P.onward s e

    here : (s < length corner) × (get_or corner s 0 ≡ v)
    here = P.holds s (rw cons.1 (Memᴰ.head refl))

    pub point_below : s < length corner
    point_below = here.0

    pub point_falls : get_or link s 0 ≤ s
    point_falls = cons.3

    pub point_turn : PointAt corner link v (get_or link s 0)
    point_turn = record { rest = cons.0; onward = cons.4; holds = λ t m. P.holds t (rw cons.1 (Memᴰ.tail m)) }

    module _ {heights : List ℕ} {base : ℕ} (q : ℕ) where
      pub point_part : (q ≡ base + s / slot_count) × (get_or heights (base + s / slot_count) 0 % 2 ≡ 1) → AtPoint corner heights base v q
      point_part (d, h) = record { slot = s; below = here.0; holds = here.1; is = sym d; closed = rw d h }

      pub point_next : AmongSlots heights P.rest base q
          → ((q ≡ base + s / slot_count) × (get_or heights (base + s / slot_count) 0 % 2 ≡ 1)) ⊎ AmongSlots heights point_turn.rest base q
      unfolding point_turn cons
      point_next o =
          ⊎_elim (λ z. let y : base + s / slot_count ≡ q = rw z at o.is in inl (sym y, rw y o.closed))
          (λ k. inr (record { slot = o.slot; member = k; is = o.is; closed = o.closed }))
          (Memᴰ.cases_cons (rw cons.1 at o.member))

-- ---- locations

-- as many as make all states
part_of : (l R S n : ℕ) → S ≡ n * R → l * R < S → l + 1 ≤ n
part_of l R S n e b = let h : l < n = lt_of_mul-lt-mul_right R (rw e at b) in omega arith

module _ {touch : Bool} {S R : ℕ} {shapes heights : List ℕ} (T : RegionTables touch S R shapes heights) (l : ℕ) (b : l * R < S) where
  pub location_states : l * R + R ≤ S
  location_states = omega (arith, T.whole, mul-le-mul_right R (part_of l R S T.locations T.whole b))

  pub slot_state : (s : ℕ) → s < slot_count * R → l * R + s / slot_count < S
  slot_state s h = omega (arith, location_states)

-- the point of a slot
module _ {S R : ℕ} {shapes heights : List ℕ} (T : RegionTables true S R shapes heights) {c s w : ℕ} (a : c ≡ corners_at R) (b : s < slot_count * R)
    (e : w ≡ get_or shapes (c + s) 0) where
  pub slot_point : w ≡ get_or (corners_in R shapes) s 0
  slot_point = e ∙ rw a (corner_at R shapes T.faces.long s b)

  pub slot_point_below : w < point_count
  slot_point_below = omega (arith, slot_point, T.corner_below refl s b)

-- ---- flags of points

module _ {R : ℕ} {corner heights : List ℕ} (l v : ℕ) (b : v < point_count) where
  -- a flag that is set
  pub flag_old : {visited level : List ℕ} → Visits R corner heights visited level → 0 < get_or visited (l * point_count + v) 0
      → Covers (AtPoint corner heights (l * R) v) level
  flag_old N k = rw (pair_left l point_count v b, pair_right l point_count v b) at (N.covers (l * point_count + v) k)

  -- a flag that is set now
  pub flag_new : {visited level level' queue queue' : List ℕ} {x n n' : ℕ} → Visits R corner heights visited level
      → TakesAll x (AtPoint corner heights (l * R) v) level level' queue queue' n n'
      → Visits R corner heights (set visited (l * point_count + v) 1) level'
  flag_new {visited} {level} {level'} N A = record { covers = λ k i q a. by k i q a (ℕ_discrete k (l * point_count + v)) }
    where
      by : (k : ℕ) → 0 < get_or (set visited (l * point_count + v) 1) k 0 → (q : ℕ)
          → AtPoint corner heights (k / point_count * R) (k % point_count) q → Dec (k ≡ l * point_count + v) → 0 < get_or level' q 0
      by k i q a (yes e) = A.covers q (rw (e, pair_left l point_count v b, pair_right l point_count v b) at a)
      by k i q a (no e) = takes_reached A.takes q (N.covers k (rw (get_or-set_other visited (l * point_count + v) k 1 0 e) at i) q a)

-- more is reached
pub visits_more : {R : ℕ} {corner heights visited level level' queue queue' : List ℕ} {x n n' : ℕ} {T : ℕ → Type 0}
    → Visits R corner heights visited level → Takes x T level level' queue queue' n n' → Visits R corner heights visited level'
visits_more N A = record { covers = λ k h q a. takes_reached A q (N.covers k h q a) }

-- ---- before and after states are taken in

module _ {touch : Bool} {R x : ℕ} {shapes heights visited level queue : List ℕ} {n : ℕ}
    (D : Ready touch R x shapes heights visited level queue n) where
  -- the flag of a location and a point
  pub flag_below : (l v : ℕ) → l * R < length level → v < point_count → l * point_count + v < length visited
  flag_below l v b c =
      omega (arith, D.spots.spots, mul-le-mul_right point_count (part_of l R (length level) D.spots.locations D.spots.states b))

  pub ready_next : {visited' level' queue' : List ℕ} {n' : ℕ} {T : ℕ → Type 0} → length visited' ≡ length visited
      → Takes x T level level' queue queue' n n' → Visits R (corners_in R shapes) heights visited' level'
      → Ready touch R x shapes heights visited' level' queue' n'
  ready_next e A N = record {
    small = D.small;
    tables = rw A.long D.tables;
    spots = rw (A.long, e) D.spots;
    visits = N;
    fits = A.fits;
  }

  pub ready_more : {level' queue' : List ℕ} {n' : ℕ} {T : ℕ → Type 0} → Takes x T level level' queue queue' n n'
      → Ready touch R x shapes heights visited level' queue' n'
  ready_more A = ready_next refl A (visits_more D.visits A)
