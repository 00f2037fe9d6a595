-- The rows of the regions so far hold their faces; all of them hold the graph of faces.
use Prim.Native.Nat.{ℕ, suc, ◌+◌, ◌-◌, ◌*◌, ◌≤◌, ◌<◌}
use native.Mathlib.Omega.{arith}
use native.Mathlib.Decide.{ℕ_discrete, dec_lt}
use native.Mathlib.Numerals.{add-one}
use mathlib.Core.Path.{◌≡◌, sym, ap, ap₂, ◌∙◌}
use mathlib.Core.Bool.{true}
use mathlib.Core.Logic.{◌↔◌}
use mathlib.Core.List.{List, Memᴰ}
use lib.Dec.{ltb}
use lib.ListN.{length, get_or, set, take, length-set}
use lib.Seq.{get_or-set_same, get_or-set_other, length-take-le, take-set-lt}
use Rattle.theory.specs.Region.{regions, face}
use Rattle.theory.specs.Adjacency.{Adjacent, Holds}
use Rattle.theory.proofs.Below.{and_intro, and_left, and_right, ltb↔}
use Rattle.theory.proofs.Sorted.{at_in, in_at}
use Rattle.theory.proofs.Enumeration.{index_at}
use Rattle.shapes.specs.Layout.{faces_at, corners_at, shapes_end, part}
use Rattle.shapes.proofs.Parts.{part_long, part-set_before, put, put_long, put_before, put-part}
use Rattle.region.specs.Limits.{Clocks, Ceiling}
use Rattle.region.specs.View.{view, struct_of}
use Rattle.region.specs.declared.Region.{Region}
use Rattle.region.proofs.Known.{known_small}
use Rattle.limits.specs.Limits.{max_word, rank_code_count, max_faces}
use Rattle.region_steps.specs.Codes.{code_of}
use Rattle.region_steps.specs.Tables.{Indexed}
use Rattle.region_steps.proofs.Codes.{code_below}
use Rattle.region_corners.specs.Corners.{region_at}
use Rattle.region_corners.specs.Faces.{face_of, whole_code, rank_code, face_codes, LookedUp}
use Rattle.region_table.proofs.Counts.{regions_few}
use Rattle.region_corners.proofs.Numbers.{At, at_struct, at_small}
use Rattle.region_corners.proofs.FaceCodes.{code_face, face_code}
use Rattle.region_corners.proofs.Rows.{row_few}

-- ---- the faces of a region by their numbers

pub face_of_lem : (n M i j : ℕ) → (face_of n M i j ≡ true)
    ↔ ((i < length (regions n M)) × (j < length (regions n M)) × (face (region_at n M i) (region_at n M j) ≡ true))
unfolding face_of
face_of_lem n M i j = (
  λ e. let r = length (regions n M) in
      let a = and_left (ltb i r) _ e in
      let b = and_right (ltb i r) _ e in
      ((ltb↔ i r).0 a, (ltb↔ j r).0 (and_left (ltb j r) _ b), and_right (ltb j r) _ b),
  λ (a, b, e). let r = length (regions n M) in and_intro (ltb i r) _ ((ltb↔ i r).1 a) (and_intro (ltb j r) _ ((ltb↔ j r).1 b) e),
)

module _ {n M i : ℕ} {index : List ℕ} {g : Region} (k : Clocks n) (h : Ceiling M) (I : Indexed n M index) (A : At n M i g) where
  -- what the index holds at a code of the row, moved, is the number of a face
  row_face : (x : ℕ) → Memᴰ x (face_codes (rank_code g))
      → (j : ℕ) × (face_of n M i j ≡ true) × (get_or index (whole_code g + x) 0 ≡ j) × (whole_code g + x < length index)
  row_face x m =
      let (q, u, f, e) = code_face n M k h g A.known x m in
      let (j, b, r) = index_at n M (view n q) u.lawful in
      let d : code_of (struct_of (region_at n M j)) ≡ code_of q = ap (λ xs. code_of (struct_of xs)) r ∙ ap code_of u.padded.same in (
        j,
        (face_of_lem n M i j).1 (A.below, b, sym (ap₂ face A.is (sym r)) ∙ f),
        ap (λ (c : ℕ). get_or index c 0) (e ∙ sym d) ∙ I.holds j b,
        rw e (omega (arith, code_below q (known_small n M k h q u), I.long)),
      )

  -- and so is found the number of each face
  face_row : (j : ℕ) → face_of n M i j ≡ true → (x : ℕ) × Memᴰ x (face_codes (rank_code g)) × (get_or index (whole_code g + x) 0 ≡ j)
  face_row j e =
      let (_, b, f) = (face_of_lem n M i j).0 e in
      let B = at_struct k h j b in
      let (x, m, c) = face_code n M k h g A.known (struct_of (region_at n M j)) B.known (ap₂ face A.is B.is ∙ f) in
      (x, m, ap (λ (c : ℕ). get_or index c 0) c ∙ I.holds j b)

-- ---- rows

adjacent_kept : {rows rows' faces faces' : List ℕ} {p q : ℕ} → get_or rows' p 0 ≡ get_or rows p 0 → get_or rows' (suc p) 0 ≡ get_or rows (suc p) 0
    → ((y : ℕ) → y < get_or rows (suc p) 0 → get_or faces' y 0 ≡ get_or faces y 0) → Adjacent rows faces p q → Adjacent rows' faces' p q
adjacent_kept a b f A =
    record { place = A.place; after = rw a A.after; before = rw b A.before; is = f A.place A.before ∙ A.is }

-- the rows of the regions below i stand before place `at`
pub record Laid (n M : ℕ) (rows faces : List ℕ) (i at : ℕ) : Type 0 where
  pub long : length rows ≡ suc (length (regions n M))
  pub room : max_faces * length (regions n M) ≤ length faces
  pub within : i ≤ length (regions n M)
  pub few : at ≤ max_faces * i
  pub here : get_or rows i 0 ≡ at
  pub upto : (p : ℕ) → p ≤ i → get_or rows p 0 ≤ at
  pub ascends : (p : ℕ) → p < i → get_or rows p 0 ≤ get_or rows (suc p) 0
  pub below : (y : ℕ) → y < at → get_or faces y 0 < length (regions n M)
  pub edges : (p q : ℕ) → p < i → Adjacent rows faces p q ↔ (face_of n M p q ≡ true)

pub laid_start : {n M : ℕ} (rows : List ℕ) {faces : List ℕ} → length rows ≡ length (regions n M) + 1 → max_faces * length (regions n M) ≤ length faces
    → Laid n M (set rows 0 0) faces 0 0
laid_start rows e r =
    let z : get_or (set rows 0 0) 0 0 ≡ 0 = get_or-set_same rows 0 0 0 (omega arith) in
    record {
      long = length-set rows 0 0 ∙ omega arith;
      room = r;
      within = omega arith;
      few = omega arith;
      here = z;
      upto = λ p h. let q : p ≡ 0 = omega arith in rw (q, z) (omega arith);
      ascends = λ p h. absurd (omega arith);
      below = λ y h. absurd (omega arith);
      edges = λ p q h. absurd (omega arith);
    }

module _ {n M i at : ℕ} {index rows faces : List ℕ} (k : Clocks n) (h : Ceiling M) (I : Indexed n M index) (L : Laid n M rows faces i at) where
  module _ {g : Region} (A : At n M i g) where
    code_few : rank_code g < rank_code_count
    code_few = let s = at_small k h A in omega (arith, s.r1, s.r2, s.r3)

    pub laid_room : at + length (face_codes (rank_code g)) ≤ length faces
    laid_room = omega (arith, row_few (rank_code g) code_few, L.room, L.few, A.below)

    pub laid_legal : (y : ℕ) → y < length (face_codes (rank_code g)) → whole_code g + get_or (face_codes (rank_code g)) y 0 < length index
    laid_legal y b = (row_face k h I A (get_or (face_codes (rank_code g)) y 0) (at_in 0 (face_codes (rank_code g)) y b)).3

    module _ {at' : ℕ} {faces' : List ℕ} (a : at' ≡ at + length (face_codes (rank_code g)))
        (K : LookedUp index (face_codes (rank_code g)) (whole_code g) at (length (face_codes (rank_code g))) faces faces') where
      laid_few : at' ≤ max_faces * (i + 1)
      laid_few = omega (arith, row_few (rank_code g) code_few, L.few)

      -- a `Word` holds the next start
      pub laid_small : at' ≤ max_word
      laid_small = omega (arith, laid_few, A.below, regions_few n M k h)

      rows' : List ℕ
      rows' = set rows (i + 1) at'

      -- a number of the new row
      new : (y : ℕ) → at ≤ y → y < at' → (j : ℕ) × (face_of n M i j ≡ true) × (get_or faces' y 0 ≡ j)
      new y b c =
          let d : y - at < length (face_codes (rank_code g)) = omega arith in
          by (y - at) (omega arith) d
          (row_face k h I A (get_or (face_codes (rank_code g)) (y - at) 0) (at_in 0 (face_codes (rank_code g)) (y - at) d))
        where
          by : (z : ℕ) → at + z ≡ y → z < length (face_codes (rank_code g))
              → (j : ℕ) × (face_of n M i j ≡ true) × (get_or index (whole_code g + get_or (face_codes (rank_code g)) z 0) 0 ≡ j)
              × (whole_code g + get_or (face_codes (rank_code g)) z 0 < length index)
              → (j : ℕ) × (face_of n M i j ≡ true) × (get_or faces' y 0 ≡ j)
          by z e d (j, f, r, _) = (j, f, ap (λ (y : ℕ). get_or faces' y 0) (sym e) ∙ K.is z d ∙ r)

      old_row : (p : ℕ) → p ≤ i → get_or rows' p 0 ≡ get_or rows p 0
      unfolding rows'
      old_row p b = get_or-set_other rows (i + 1) p at' 0 (λ q. omega arith)

      new_row : get_or rows' (suc i) 0 ≡ at'
      unfolding rows'
      new_row = rw (sym (add-one i)) (get_or-set_same rows (i + 1) at' 0 (omega (arith, L.long, A.below)))

      own : (q : ℕ) → Adjacent rows' faces' i q ↔ (face_of n M i q ≡ true)
      own q = (
        λ B. let (j, f, r) = new B.place (omega (arith, B.after, old_row i (omega arith), L.here)) (omega (arith, B.before, new_row)) in
            ap (face_of n M i) (sym B.is ∙ r) ∙ f,
        λ f. let (x, m, c) = face_row k h I A q f in
            let (y, b, d) = in_at 0 m in
            record {
              place = at + y;
              after = omega (arith, old_row i (omega arith), L.here);
              before = omega (arith, new_row);
              is = K.is y b ∙ ap (λ (x : ℕ). get_or index (whole_code g + x) 0) d ∙ c;
            },
      )

      others : (p q : ℕ) → p < i → Adjacent rows' faces' p q ↔ Adjacent rows faces p q
      others p q b =
          let a = old_row p (omega arith) in
          let c = old_row (suc p) (omega arith) in
          let d : (y : ℕ) → y < get_or rows (suc p) 0 → get_or faces' y 0 ≡ get_or faces y 0
          = λ y j. K.kept y (omega (arith, L.upto (suc p) (omega arith))) in
          (adjacent_kept (sym a) (sym c) (λ y j. sym (d y (rw c at j))), adjacent_kept a c d)

      pub laid_next : Laid n M (set rows (i + 1) at') faces' (i + 1) at'
      unfolding rows'
      laid_next = record {
        long = length-set rows (i + 1) at' ∙ L.long;
        room = rw K.long L.room;
        within = omega (arith, A.below);
        few = laid_few;
        here = here';
        upto = λ p b. upto' p b (ℕ_discrete p (i + 1));
        ascends = λ p b. ascends' p b (ℕ_discrete p i);
        below = λ y b. below' y b (dec_lt y at);
        edges = λ p q b. edges' p q b (ℕ_discrete p i);
      }
        where
          here' : get_or rows' (i + 1) 0 ≡ at'
          here' = get_or-set_same rows (i + 1) at' 0 (omega (arith, L.long, A.below))

          upto' : (p : ℕ) → p ≤ i + 1 → Dec (p ≡ i + 1) → get_or rows' p 0 ≤ at'
          upto' p b (yes q) = rw (q, here') (omega arith)
          upto' p b (no q) =
              let c : p ≤ i = omega (arith, q) in
              omega (arith, old_row p c, L.upto p c)

          ascends' : (p : ℕ) → p < i + 1 → Dec (p ≡ i) → get_or rows' p 0 ≤ get_or rows' (suc p) 0
          ascends' p b (yes q) = rw q (omega (arith, old_row i (omega arith), new_row, L.here))
          ascends' p b (no q) =
              let c : p < i = omega (arith, q) in
              omega (arith, old_row p (omega arith), old_row (suc p) c, L.ascends p c)

          below' : (y : ℕ) → y < at' → Dec (y < at) → get_or faces' y 0 < length (regions n M)
          below' y b (yes c) = rw (K.kept y c) (L.below y c)
          below' y b (no c) = let (j, f, r) = new y (omega (arith, c)) b in rw r ((face_of_lem n M i j).0 f).1

          edges' : (p q : ℕ) → p < i + 1 → Dec (p ≡ i) → Adjacent rows' faces' p q ↔ (face_of n M p q ≡ true)
          edges' p q b (yes c) = rw c (own q)
          edges' p q b (no c) =
              let d : p < i = omega (arith, c) in
              (λ B. (L.edges p q d).0 ((others p q d).0 B), λ f. (others p q d).1 ((L.edges p q d).1 f))

  pub laid_end : length (regions n M) ≤ i → Holds rows faces (length (regions n M)) (face_of n M)
  laid_end w = let e : i ≡ length (regions n M) = omega (arith, L.within) in record {
    long = L.long;
    ascends = rw e at L.ascends;
    ends = omega (arith, rw e at L.here, L.few, L.room);
    below = λ y b. L.below y (omega (arith, rw e at L.here));
    edges = rw e at L.edges;
  }

-- ---- rows before place k and faces from there up to place e, in the list of all tables

pub record Laying (n M k e : ℕ) (t : List ℕ) (i at : ℕ) : Type 0 where
  pub long : length t ≡ shapes_end (length (regions n M))
  pub rows : k ≡ faces_at (length (regions n M))
  pub faces : e ≡ corners_at (length (regions n M))
  pub laid : Laid n M (take k t) (part k e t) i at

pub laying_start : {n M k e : ℕ} (t : List ℕ) → length t ≡ shapes_end (length (regions n M)) → k ≡ faces_at (length (regions n M))
    → e ≡ corners_at (length (regions n M)) → Laying n M k e (set t 0 0) 0 0
laying_start {n} {M} {k} {e} t l a b =
    let r = length (regions n M) in
    let u = set t 0 0 in
    let z : length u ≡ length t = length-set t 0 0 in
    let f : length (take k t) ≡ r + 1 = length-take-le k t (omega arith) ∙ omega arith in
    let g : length (part k e u) ≡ e - k = part_long k e u (omega arith) in
    record { long = z ∙ l; rows = a; faces = b; laid = rw (take-set-lt k t 0 0 (omega arith)) (laid_start (take k t) f (omega arith)) }

pub laying_next : {n M k e i at at' : ℕ} {t : List ℕ} (y : List ℕ) → Laying n M k e t i at → i < length (regions n M)
    → length y ≡ length (part k e t) → Laid n M (set (take k t) (i + 1) at') y (i + 1) at'
    → Laying n M k e (set (put k e t y) (i + 1) at') (i + 1) at'
laying_next {k = k} {e} {i} {at' = at'} {t} y L h l D =
    let u = put k e t y in
    let w = set u (i + 1) at' in
    let a : k ≤ e = omega (arith, L.rows, L.faces) in
    let b : e ≤ length t = omega (arith, L.long, L.faces) in
    let c : i + 1 < k = omega (arith, L.rows) in
    let f : take k w ≡ set (take k t) (i + 1) at'
    = take-set-lt k u (i + 1) at' c ∙ ap (λ (m : List ℕ). set m (i + 1) at') (put_before k e t y a b l) in
    let g : part k e w ≡ y = part-set_before k e u (i + 1) at' c ∙ put-part k e t y a b l in
    record { long = length-set u (i + 1) at' ∙ put_long k e t y a b l ∙ L.long; rows = L.rows; faces = L.faces; laid = rw (f, g) D }
