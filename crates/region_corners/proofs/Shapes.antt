-- The tables of all regions in one slice: when they are filled, and when the chains are added.
use Prim.Native.Nat.{ℕ, ◌≤◌}
use native.Mathlib.Omega.{arith}
use mathlib.Core.Path.{◌≡◌, sym, ap₂, ◌∙◌}
use mathlib.Core.Bool.{Bool, false, true≢false}
use mathlib.Core.List.{List}
use lib.ListN.{length, take}
use Rattle.theory.specs.Region.{regions}
use Rattle.shapes.specs.Layout.{faces_at, corners_at, links_at, part, rows_in, faces_in, corners_in}
use Rattle.shapes.proofs.Parts.{alike_front, alike_before, put, put_long, put_before, put-part, corners_long}
use Rattle.region.specs.Limits.{Clocks, Ceiling}
use Rattle.region_corners.specs.Corners.{CornerSlots}
use Rattle.region_corners.specs.Shapes.{FaceShapes, Shapes, Linked, SearchShapes, Slotted, Chained}
use Rattle.region_table.proofs.Counts.{regions_few}

-- ---- what a search reads of them

pub shapes_faces : {n M : ℕ} {t : List ℕ} → Shapes n M t → FaceShapes n M t
shapes_faces S = record { long = S.long; face = S.face }

pub linked_search : {n M : ℕ} {t : List ℕ} (touch : Bool) → Linked n M t → SearchShapes touch n M t
linked_search touch K = record { faces = shapes_faces K.shapes; linked = λ _. K }

-- where no touch steps are asked for the faces are all
pub faces_search : {touch : Bool} {n M : ℕ} {t : List ℕ} → touch ≡ false → FaceShapes n M t → SearchShapes touch n M t
faces_search e F = record { faces = F; linked = λ i. absurd (true≢false (sym i ∙ e)) }

-- ---- the corners: the slots y are put behind the faces that are there

pub shapes_filled : {n M a b : ℕ} (t y : List ℕ) → a ≡ corners_at (length (regions n M)) → b ≡ links_at (length (regions n M))
    → FaceShapes n M t → length y ≡ length (part a b t) → CornerSlots n M y → Shapes n M (put a b t y)
shapes_filled {n} {M} {a} {b} t y p q F e C =
    let r = length (regions n M) in
    let u = put a b t y in
    let i : a ≤ b = omega arith in
    let j : b ≤ length t = omega arith in
    let k = put_before a b t y i j e in
    let f : rows_in r u ≡ rows_in r t = alike_front a (faces_at r) u t (omega arith) k in
    let g : faces_in r u ≡ faces_in r t = alike_before a (faces_at r) (corners_at r) u t (omega arith) k in
    let h : corners_in r u ≡ y = ap₂ (λ (a b : ℕ). part a b u) (sym p) (sym q) ∙ put-part a b t y i j e in
    record { long = put_long a b t y i j e ∙ F.long; face = rw (f, g) F.face; slots = rw h C }

-- ---- the chains, asked for and added

module _ {n M R : ℕ} {t : List ℕ} (e : R ≡ length (regions n M)) (S : Shapes n M t) where
  pub slotted : Clocks n → Ceiling M → Slotted R t
  slotted k h = rw e (record {
    few = regions_few n M k h;
    long = S.long;
    below = λ s i. S.slots.below s (rw (corners_long (length (regions n M)) t S.long) i);
  })

  pub linked : {t' : List ℕ} → Chained R t t' → Linked n M t'
  linked {t'} C =
      let r = length (regions n M) in
      let k : take (links_at r) t' ≡ take (links_at r) t = rw e at C.kept in
      let f : rows_in r t' ≡ rows_in r t = alike_front (links_at r) (faces_at r) t' t (omega arith) k in
      let g : faces_in r t' ≡ faces_in r t = alike_before (links_at r) (faces_at r) (corners_at r) t' t (omega arith) k in
      let h : corners_in r t' ≡ corners_in r t = alike_before (links_at r) (corners_at r) (links_at r) t' t (omega arith) k in
      record { shapes = record { long = C.long ∙ S.long; face = rw (f, g) S.face; slots = rw h S.slots }; chains = rw e at C.chains }
