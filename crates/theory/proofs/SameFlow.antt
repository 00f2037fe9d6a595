-- Two systems with the same time and jump steps have the same closed walks and heights.
use mathlib.Core.Path.{◌≡◌}
use mathlib.Core.Bool.{true}
use Prim.Native.Nat.{ℕ}
use Rattle.theory.specs.System.{System, Reaches, OnClosedWalkIn}
use Rattle.theory.specs.Height.{Falls, none, level, down, IsHeight}
use Rattle.theory.proofs.Walk.{walk_map}

-- each time and jump step of Y is one of Z
abbrev pub FlowIn : System → System → Type 0
FlowIn Y Z = (p q : ℕ) → Y.flow p q ≡ true → Z.flow p q ≡ true

reaches_as : (Y Z : System) → FlowIn Y Z → (p q : ℕ) → Reaches Y p q → Reaches Z p q
reaches_as Y Z f p q (l, w) = (l, walk_map f w)

pub closed_as : (Y Z : System) → FlowIn Y Z → (p : ℕ) → OnClosedWalkIn Y p → OnClosedWalkIn Z p
closed_as Y Z f p (q, l, w) = (q, l, walk_map f w)

falls_as : (Y Z : System) → FlowIn Y Z → FlowIn Z Y → {p d : ℕ} → Falls Y p d → Falls Z p d
falls_as Y Z f g none = none
falls_as Y Z f g (level {p} {q} e r a) = level (f p q e) (reaches_as Y Z f q p r) (falls_as Y Z f g a)
falls_as Y Z f g (down {p} {q} e n a) = down (f p q e) (λ r. n (reaches_as Z Y g q p r)) (falls_as Y Z f g a)

pub height_as : (Y Z : System) → FlowIn Y Z → FlowIn Z Y → {p h : ℕ} → IsHeight Y p h → IsHeight Z p h
height_as Y Z f g a = record { some = falls_as Y Z f g a.some; most = λ d b. a.most d (falls_as Z Y g f b) }
