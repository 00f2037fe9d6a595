-- Functions on lists that compute: tests of the elements, selection, ranges, all lists over an alphabet.
use Rattle.std.specs.Prelude.{ℕ, zero, suc, Bool, true, false, cond, ◌&&◌, ◌||◌, List, [], ◌∷◌, ◌++◌, map, eqb}

abbrev pub every : {A : Type 0} → (A → Bool) → List A → Bool
every p [] = true
every p (x ∷ xs) = p x && every p xs

abbrev pub some : {A : Type 0} → (A → Bool) → List A → Bool
some p [] = false
some p (x ∷ xs) = p x || some p xs

-- the elements that pass, in order
abbrev pub keep : {A : Type 0} → (A → Bool) → List A → List A
keep p [] = []
keep p (x ∷ xs) = cond (p x) (x ∷ keep p xs) (keep p xs)

-- the same numbers in the same order
unfoldable pub same : List ℕ → List ℕ → Bool
same [] [] = true
same [] (y ∷ ys) = false
same (x ∷ xs) [] = false
same (x ∷ xs) (y ∷ ys) = eqb x y && same xs ys

-- c, c - 1, .., 1
abbrev pub down : ℕ → List ℕ
down zero = []
down (suc c) = suc c ∷ down c

-- k, k + 1, ..: c numbers
abbrev pub from : ℕ → ℕ → List ℕ
from k zero = []
from k (suc c) = k ∷ from (suc k) c

abbrev pub flat : {A : Type 0} → List (List A) → List A
flat [] = []
flat (l ∷ ls) = l ++ flat ls

-- all lists of n elements of xs, in dictionary order
abbrev pub lists : ℕ → List ℕ → List (List ℕ)
lists zero xs = [] ∷ []
lists (suc n) xs = let rest = lists n xs in flat (map (λ x. map (λ l. x ∷ l) rest) xs)
