-- Request (c) of 02: stay fields as 01 has them, and a plan in another mark.
use Rattle.std.specs.Prelude.{◌≡◌, ◌⊎◌, cond, List, [], ◌∷◌, map, ℕ, ◌+◌, eqb}
use Rattle.parser.specs.Parse.{Reading}
use Rattle.model.specs.Model.{limit_at}

-- 01: "0 means the ceiling, any other s means limit s-1"
abbrev pub FirstStays : Reading → ℕ → ℕ → List ℕ → Type 0
FirstStays r l x vs =
    ((vs ≡ 0 ∷ []) × (limit_at r.model l x ≡ r.model.ceiling)) ⊎ (vs ≡ (limit_at r.model l x + 1) ∷ [])

-- the same timing model, read from a plan of this mark
abbrev pub with_mark : ℕ → Reading → Reading
with_mark k r = record { refusal = r.refusal; mark = k; model = r.model }

-- "Whoever relied on the ceiling and moves to mark 2 writes M+1": for a blank field, any other as it was
abbrev pub moved_field : ℕ → ℕ → ℕ
moved_field M s = cond (eqb s 0) (M + 1) s

abbrev pub moved_stay : Reading → (ℕ → ℕ → List ℕ) → ℕ → ℕ → List ℕ
moved_stay r stay l x = map (moved_field r.model.ceiling) (stay l x)
