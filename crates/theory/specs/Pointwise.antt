-- Two lists compared place by place: clocks and their limits.
use Rattle.std.specs.Prelude.{List, [], ◌∷◌, ℕ}

-- P holds of the two lists place by place, and they are equally long
pub data Each {A : Type 0} (P : A → ℕ → Type 0) : List A → List ℕ → Type 0 where
  none : Each P [] []
  more : {x : A} {c : ℕ} {v : List A} {cs : List ℕ} → P x c → Each P v cs → Each P (x ∷ v) (c ∷ cs)
