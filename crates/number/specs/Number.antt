-- 01: "A number is one to three groups of seven bits, lowest group first, one per byte; the byte's top bit says that another follows."
-- First the paper's form, as relations, then the executable form.
use Rattle.std.specs.Prelude.{ℕ, ⊤, suc, ◌+◌, ◌*◌, ◌/◌, ◌%◌, ◌≤◌, ◌<◌, List, [], ◌∷◌, ◌++◌, cond, length, get_or, ltb}
use Rattle.limits.specs.Refusal.{code_of}
use Rattle.number.specs.declared.Number as declared
use Rattle.number.specs.declared.Number.TheVariants as code

-- what reading a number finds: its value and the position after it, or the number of its refusal
pub data Number : Type 0 where
  Value : ℕ → ℕ → Number
  Refused : ℕ → Number

-- what the code finds, its refusal by number
abbrev pub numbered : declared.Number → Number
numbered (code.Value v p) = Value v p
numbered (code.Refused r) = Refused (code_of r)

-- it finds no value
abbrev pub is_refused : declared.Number → Type 0
is_refused (code.Value v p) = ⊥
is_refused (code.Refused r) = ⊤

-- bytes that are at most so many groups, with the value that they have
pub data Groups : ℕ → List ℕ → ℕ → Type 0 where
  last : {k a : ℕ} → a < 128 → Groups (suc k) (a ∷ []) a
  more : {k a v : ℕ} {bs : List ℕ} → 128 ≤ a → Groups k bs v → Groups (suc k) (a ∷ bs) (a % 128 + 128 * v)

-- "one to three groups"; a number may be spelled in several ways ("Zero padding is allowed")
abbrev pub Spells : List ℕ → ℕ → Type 0
Spells bs v = Groups 3 bs v

-- refusal 1, "bytes end too soon": fewer than three are left, and each says that another follows
pub record EndsTooSoon (bs : List ℕ) (at : ℕ) : Type 0 where
  pub few : length bs < at + 3
  pub follows : (i : ℕ) → at ≤ i → i < length bs → 128 ≤ get_or bs i 0

-- refusal 2, "third byte has its top bit set", and the two before it too
pub record ThirdTopBit (bs : List ℕ) (at : ℕ) : Type 0 where
  pub three : at + 3 ≤ length bs
  pub follows : (i : ℕ) → at ≤ i → i < at + 3 → 128 ≤ get_or bs i 0

-- one byte of a number: 1 where there is none; below 128 it ends the number, which then has this value; else the next follows
abbrev pub group : List ℕ → ℕ → ℕ → Number → Number
group bs at value next =
    cond (ltb at (length bs))
    (cond (ltb (get_or bs at 0) 128) (Value value (at + 1)) next)
    (Refused 1)

-- the number at a position and the position after it, or its refusal
unfoldable pub read_number : List ℕ → ℕ → Number
read_number bs at =
    let a = get_or bs at 0 in
    let b = get_or bs (at + 1) 0 in
    let c = get_or bs (at + 1 + 1) 0 in
    group bs at a
    (group bs (at + 1) (a % 128 + 128 * b)
    (group bs (at + 1 + 1) (a % 128 + 128 * (b % 128) + 16384 * c)
    (Refused 2)))

-- go on with a number and the position after it, or stop with its refusal
abbrev pub on_number : {A : Type 0} → Number → (ℕ → ℕ → A) → (ℕ → A) → A
on_number (Value v p) go stop = go v p
on_number (Refused r) go stop = stop r

-- the refusal, 0 where there is a value
abbrev pub number_refusal : Number → ℕ
number_refusal (Value v p) = 0
number_refusal (Refused r) = r

-- "What we write uses shortest numbers": the shortest form of a number below 2 ^ 21
unfoldable pub spell : ℕ → List ℕ
spell v =
    cond (ltb v 128) (v ∷ [])
    (cond (ltb v 16384) ((v % 128 + 128) ∷ (v / 128) ∷ [])
    ((v % 128 + 128) ∷ (v / 128 % 128 + 128) ∷ (v / 16384) ∷ []))

-- the shortest forms of several numbers, one after the other
unfoldable pub spell_all : List ℕ → List ℕ
spell_all [] = []
spell_all (v ∷ vs) = spell v ++ spell_all vs
