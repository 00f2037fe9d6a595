-- Which bytes spell a plan, and the shortest of them. Over the whole reading, so that what stands beside the timing model can be spelt too.
use Rattle.std.specs.Prelude.{ℕ, ◌+◌, ◌<◌, ◌≡◌, List, [], ◌∷◌, ◌++◌, cond, get_or, eqb}
use Rattle.number.specs.Number.{spell_all}
use Rattle.number.specs.Sequence.{SpellsAll}
use Rattle.parser.specs.Parse.{Reading}
use Rattle.model.specs.Each.{gather}
use Rattle.limits.specs.Limits.{KnownMark}
use Rattle.model.specs.Model.{source_of, target_of, limit_at, low_at, high_at, Lawful, Tidy}
use Rattle.stay_fields.specs.Resolve.{default_at}
use Rattle.canonical.specs.Blank.{Blank}

-- ---- the numbers, with a choice of those that stand for each stay limit

-- "Per location: kind (0 ordinary, 1 forbidden), then n stay fields"
abbrev pub location_numbers : (ℕ → ℕ → List ℕ) → Reading → ℕ → List ℕ
location_numbers stay r l = get_or r.model.kind l 0 ∷ gather r.model.clocks (stay l)

-- "per clock low and high"
abbrev pub guard_numbers : Reading → ℕ → ℕ → List ℕ
guard_numbers r e x = low_at r.model e x ∷ high_at r.model e x ∷ []

-- "Per edge: from, to, ..; reset mask, ..; per clock low and high"
abbrev pub edge_numbers : Reading → ℕ → List ℕ
edge_numbers r e = source_of r.model e ∷ target_of r.model e ∷ get_or r.model.reset e 0 ∷ gather r.model.clocks (guard_numbers r e)

-- "In order: mark ..; clocks n, ..; ceiling M, ..; locations L, ..; edges E, ..; start location, .."
abbrev pub header_numbers : Reading → List ℕ
header_numbers r = r.mark ∷ r.model.clocks ∷ r.model.ceiling ∷ r.model.locations ∷ r.model.edges ∷ r.model.start ∷ []

unfoldable pub numbers_of : (ℕ → ℕ → List ℕ) → Reading → List ℕ
numbers_of stay r =
    header_numbers r ++ (gather r.model.locations (location_numbers stay r) ++ gather r.model.edges (edge_numbers r))

-- ---- the paper's form of a plan's bytes

-- the numbers that mean the stay limit: 0 if a blank means it, and "any other s means limit s-1"
pub data Stays (r : Reading) (l x : ℕ) : List ℕ → Type 0 where
  blank : Blank r l x (limit_at r.model l x) → Stays r l x (0 ∷ [])
  written : Stays r l x ((limit_at r.model l x + 1) ∷ [])

-- these bytes spell this plan, "Nothing may follow"
pub record SpellsPlan (bs : List ℕ) (r : Reading) : Type 0 where
  pub done : r.refusal ≡ 0
  pub marked : KnownMark r.mark
  pub lawful : Lawful r.model
  pub tidy : Tidy r.model
  pub stay : ℕ → ℕ → List ℕ
  pub stays : (l x : ℕ) → l < r.model.locations → x < r.model.clocks → Stays r l x (stay l x)
  pub bytes : SpellsAll bs (numbers_of stay r)

-- ---- 02: "put it out in shortest numbers", and "writes the 0 exactly where the default gives the same limit, M+1 or not"

abbrev pub stay_numbers : Reading → ℕ → ℕ → List ℕ
stay_numbers r l x = cond (eqb (limit_at r.model l x) (default_at r.mark r.model l x)) (0 ∷ []) ((limit_at r.model l x + 1) ∷ [])

unfoldable pub plan_numbers : Reading → List ℕ
plan_numbers r = numbers_of (stay_numbers r) r

unfoldable pub shortest_plan : Reading → List ℕ
shortest_plan r = spell_all (plan_numbers r)
