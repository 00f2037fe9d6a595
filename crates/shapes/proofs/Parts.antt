-- Parts of a list: how long they are, what stands in them, and what is left of them when a place or a part of the list is stored.
use Prim.Native.Nat.{ℕ, zero, suc, ◌+◌, ◌-◌, ◌*◌, ◌≤◌, ◌<◌}
use native.Mathlib.Omega.{arith}
use native.Mathlib.Nat.{sub-zero}
use mathlib.Core.Path.{◌≡◌, sym, ap, ◌∙◌}
use mathlib.Core.List.{List, [], ◌∷◌, ◌++◌, append_assoc}
use lib.ListN.{length, get_or, take, drop, set, length-append, length-drop}
use lib.Seq.{length-take-le, take-nil, take-take, take_at, drop_at, drop-drop, get_or-take, get_or-drop, take-set-le, take-set-lt, drop-set-lt, drop-set-add}
use Rattle.limits.specs.Limits.{slot_count, point_count, max_faces}
use Rattle.shapes.specs.Layout.{faces_at, corners_at, links_at, heads_at, shapes_end, part, rows_in, faces_in, corners_in, links_in, heads_in}

-- ---- a part

-- one that begins at 0, as `&t[..b]` cuts it
pub part_front : (b : ℕ) (t : List ℕ) → part 0 b t ≡ take b t
part_front b t = rw sub-zero

pub part_long : (a b : ℕ) (t : List ℕ) → b ≤ length t → length (part a b t) ≡ b - a
part_long a b t h = length-take-le (b - a) (drop a t) (rw length-drop (omega arith))

pub part_at : (a b : ℕ) (t : List ℕ) (i : ℕ) → i < b - a → get_or (part a b t) i 0 ≡ get_or t (a + i) 0
part_at a b t i h = get_or-take (b - a) (drop a t) i 0 h ∙ get_or-drop a t i 0

-- ---- parts of two lists that are alike before a place, or from a place on

part_cut : (a b : ℕ) (t : List ℕ) → part a b t ≡ drop a (take b t)
part_cut zero b t = part_front b t
part_cut (suc a) zero t = let e : 0 - suc a ≡ 0 = omega arith in rw e
part_cut (suc a) (suc b) [] = take-nil (suc b - suc a)
part_cut (suc a) (suc b) (x ∷ t) = let e : suc b - suc a ≡ b - a = omega arith in rw e (part_cut a b t)

pub alike_front : (c b : ℕ) (t u : List ℕ) → b ≤ c → take c t ≡ take c u → take b t ≡ take b u
alike_front c b t u h e = sym (take-take b c t h) ∙ ap (take b) e ∙ take-take b c u h

pub alike_before : (c a b : ℕ) (t u : List ℕ) → b ≤ c → take c t ≡ take c u → part a b t ≡ part a b u
alike_before c a b t u h e = part_cut a b t ∙ ap (drop a) (alike_front c b t u h e) ∙ sym (part_cut a b u)

pub alike_from : (c a b : ℕ) (t u : List ℕ) → c ≤ a → drop c t ≡ drop c u → part a b t ≡ part a b u
alike_from c a b t u h e = ap (take (b - a)) (later t ∙ ap (drop (a - c)) e ∙ sym (later u))
  where
    later : (t : List ℕ) → drop a t ≡ drop (a - c) (drop c t)
    later t = let q : c + (a - c) ≡ a = omega arith in sym (drop-drop (a - c) c t ∙ rw q)

-- ---- a store at one place: in the part, before it, after it

pub part-set : (a b : ℕ) (t : List ℕ) (i x : ℕ) → i < b - a → part a b (set t (a + i) x) ≡ set (part a b t) i x
part-set a b t i x h = rw (drop-set-add a t i x) (take-set-lt (b - a) (drop a t) i x h)

pub part-set_before : (a b : ℕ) (t : List ℕ) (i x : ℕ) → i < a → part a b (set t i x) ≡ part a b t
part-set_before a b t i x h = alike_from a a b (set t i x) t (omega arith) (drop-set-lt a t i x h)

pub part-set_after : (a b : ℕ) (t : List ℕ) (i x : ℕ) → b ≤ i → part a b (set t i x) ≡ part a b t
part-set_after a b t i x h = alike_before b a b (set t i x) t (omega arith) (take-set-le b t i x h)

-- ---- y in the place of a part: what a call leaves that was lent `&mut t[a..b]`

abbrev pub put : ℕ → ℕ → List ℕ → List ℕ → List ℕ
put a b t y = take a t ++ (y ++ drop (b - a) (drop a t))

module _ (a b : ℕ) (t y : List ℕ) (l : a ≤ b) (h : b ≤ length t) (e : length y ≡ length (part a b t)) where
  front_long : length (take a t) ≡ a
  front_long = length-take-le a t (omega arith)

  y_long : length y ≡ b - a
  y_long = e ∙ part_long a b t h

  pub put_long : length (put a b t y) ≡ length t
  put_long =
      rw (length-append, length-append, length-drop, length-drop, front_long, y_long) (omega arith)

  pub put_before : take a (put a b t y) ≡ take a t
  put_before = take_at (take a t) _ a front_long

  pub put_after : drop b (put a b t y) ≡ drop b t
  put_after =
      let q : a + (b - a) ≡ b = omega arith in
      let r : length (take a t ++ y) ≡ b = length-append (take a t) y ∙ omega (arith, front_long, y_long) in
      rw (← append_assoc (take a t) y _) (drop_at (take a t ++ y) _ b r) ∙ drop-drop (b - a) a t ∙ rw q

  pub put-part : part a b (put a b t y) ≡ y
  put-part = rw (drop_at (take a t) (y ++ drop (b - a) (drop a t)) a front_long) (take_at y _ (b - a) y_long)

-- ---- the tables of R regions

module _ (R : ℕ) (t : List ℕ) (h : length t ≡ shapes_end R) where
  pub rows_long : length (rows_in R t) ≡ R + 1
  rows_long = length-take-le (faces_at R) t (omega arith)

  pub faces_long : length (faces_in R t) ≡ max_faces * R
  faces_long = part_long (faces_at R) (corners_at R) t (omega arith) ∙ omega arith

  pub corners_long : length (corners_in R t) ≡ slot_count * R
  corners_long = part_long (corners_at R) (links_at R) t (omega arith) ∙ omega arith

  pub links_long : length (links_in R t) ≡ slot_count * R
  links_long = part_long (links_at R) (heads_at R) t (omega arith) ∙ omega arith

  pub heads_long : length (heads_in R t) ≡ point_count
  heads_long = part_long (heads_at R) (shapes_end R) t (omega arith) ∙ omega arith

  -- where their places stand in the slice
  pub rows_at : (i : ℕ) → i < R + 1 → get_or t i 0 ≡ get_or (rows_in R t) i 0
  rows_at i l = sym (get_or-take (R + 1) t i 0 l)

  pub corner_at : (s : ℕ) → s < slot_count * R → get_or t (corners_at R + s) 0 ≡ get_or (corners_in R t) s 0
  corner_at s l = sym (part_at (corners_at R) (links_at R) t s (omega arith))

  pub link_at : (s : ℕ) → s < slot_count * R → get_or t (links_at R + s) 0 ≡ get_or (links_in R t) s 0
  link_at s l = sym (part_at (links_at R) (heads_at R) t s (omega arith))

  pub head_at : (v : ℕ) → v < point_count → get_or t (heads_at R + v) 0 ≡ get_or (heads_in R t) v 0
  head_at v l = sym (part_at (heads_at R) (shapes_end R) t v (omega arith))
