-- Sheets: the rules that one keeps, what passes as one, and ours.
use Rattle.std.specs.Prelude.{◌≡◌, Bool, true, false, not, ◌&&◌, ◌||◌, List, ℕ, ◌+◌, ◌-◌, ◌*◌, ◌/◌, ◌%◌, ◌≤◌, ◌<◌, length, get_or, eqb, ltb, leb}
use Rattle.theory.specs.Below.{any, all, imp, bit, tab}
use Rattle.theory.specs.System.{System}
use Rattle.theory.specs.Marked.{marks}
use Rattle.theory.specs.Height.{height}

-- ---- what is meant

-- 01, "Rules:", where `is_in` tells the states that are in and h gives heights
pub record SheetRules (Y : System) (is_in : ℕ → Bool) (h : ℕ → ℕ) : Type 0 where
  -- "start in"
  pub start_in : is_in Y.start ≡ true
  -- "the in-states closed under time, jump and face"
  pub flow_in : (p q : ℕ) → is_in p ≡ true → Y.flow p q ≡ true → is_in q ≡ true
  pub face_in : (p q : ℕ) → is_in p ≡ true → Y.face p q ≡ true → is_in q ≡ true
  -- "no time or jump step raises the height"
  pub no_rise : (p q : ℕ) → Y.flow p q ≡ true → h q ≤ h p
  -- "a state that is out and shares a corner with an in-state of its location has every time and jump step strictly lowering it":
  -- p is in, q is out, and a step leads from q to x
  pub lower : (p q x : ℕ) → is_in p ≡ true → is_in q ≡ false → Y.near p q ≡ true → Y.flow q x ≡ true → h x < h q
  -- "no in-state forbidden"
  pub none_forbidden : (p : ℕ) → p < Y.size → is_in p ≡ true → Y.forbidden p ≡ false

-- 01: "S numbers in state order, each 2h+i: i is 1 if the state is in, h is its height"
abbrev pub in_of : List ℕ → ℕ → Bool
in_of l p = eqb (get_or l p 0 % 2) 1

abbrev pub height_of : List ℕ → ℕ → ℕ
height_of l p = get_or l p 0 / 2

-- a sheet that passes, by its numbers after the first, which is 1
pub record Sheet (Y : System) (l : List ℕ) : Type 0 where
  -- "then S numbers"
  pub long : length l ≡ Y.size
  -- "all at most 2S-1"
  pub bounded : (p : ℕ) → p < Y.size → get_or l p 0 ≤ 2 * Y.size - 1
  -- "a state not allowed has 0"
  pub blank : (p : ℕ) → p < Y.size → Y.allowed p ≡ false → get_or l p 0 ≡ 0
  pub rules : SheetRules Y (in_of l) (height_of l)

-- ---- what computes it

-- `SheetRules`
unfoldable pub keeps : System → (ℕ → Bool) → (ℕ → ℕ) → Bool
keeps Y is_in h =
    is_in Y.start && all Y.size (λ p.
    imp (is_in p) (not (Y.forbidden p))
    && (all Y.size (λ q. imp (Y.flow p q) (leb (h q) (h p)) && imp (is_in p && (Y.flow p q || Y.face p q)) (is_in q))
    && imp (not (is_in p) && any Y.size (λ q. is_in q && Y.near q p)) (all Y.size (λ q. imp (Y.flow p q) (ltb (h q) (h p))))))

-- `Sheet`
unfoldable pub sheet_test : System → List ℕ → Bool
sheet_test Y l =
    eqb (length l) Y.size
    && (all Y.size (λ p. leb (get_or l p 0) (2 * Y.size - 1) && (Y.allowed p || eqb (get_or l p 0) 0)) && keeps Y (in_of l) (height_of l))

-- ---- 01: "Our sheet holds the marked set"

-- "each 2h+i"
unfoldable pub number : System → ℕ → ℕ
number Y p = 2 * height Y p + bit (marks Y p)

unfoldable pub our_sheet : System → List ℕ
our_sheet Y = tab Y.size (number Y)
