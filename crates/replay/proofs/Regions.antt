-- Regions of the evidence: their numbers, kept in bytes, and the state that they name.
use Prim.Native.Nat.{ℕ, zero, suc, ◌+◌, ◌*◌, ◌/◌, ◌≤◌, ◌<◌}
use native.Mathlib.Omega.{arith}
use mathlib.Core.Path.{◌≡◌, refl, sym, ap, ap₂, subst, ◌∙◌}
use mathlib.Core.Bool.{Bool, true, false, cond, true≢false}
use mathlib.Core.Logic.{◌↔◌, ◌⊎◌, inl, inr}
use mathlib.Core.List.{List, [], ◌∷◌, ◌++◌, map, Memᴰ}
use lib.ListN.{length, get_or, length-map, get_or-map}
use Rattle.theory.specs.Region.{Clock, clock, clocks, wholes, lawful}
use Rattle.theory.specs.Enumeration.{ranks, key}
use Rattle.theory.specs.StateGraph.{region_count, location_of, number_of}
use Rattle.theory.proofs.Below.{either, and↔, leb↔, false_unless_true}
use Rattle.theory.proofs.Region.{lawful_law}
use Rattle.theory.proofs.Enumeration.{lawful_whole, lawful_rank}
use Rattle.theory.proofs.StateGraph.{at_own_index, location_below, number_below}
use Rattle.limits.specs.Limits.{max_clocks, max_ceiling}
use Rattle.region.specs.declared.Region.{Region}
use Rattle.region.specs.Limits.{Clocks, Ceiling}
use Rattle.region.specs.View.{view, nth, struct_of, Small, Known}
use Rattle.std.specs.Prelude.{Some, None}
use Rattle.region.specs.Packed.{pack}
use Rattle.region_table.specs.Lookup.{found_in}
use Rattle.region.proofs.Views.{view_struct, padded_struct, length-view}
use Rattle.region.proofs.Packing.{lawful_small}
use Rattle.region_table.proofs.Listed.{found_known}
use Rattle.model.specs.declared.Model.{Model}
use Rattle.model.specs.Model.{Lawful}
use Rattle.graph.specs.Plan.{automaton_of}
use Rattle.graph.specs.States.{Listed, states}
use Rattle.graph.proofs.States.{clocks_of, ceiling_of, count_length, location_is, at_missing}
use Rattle.replay.specs.Trail.{state_beside}
use Rattle.trail_numbers.specs.Steps.{capped, kept_region}
use Rattle.replay.specs.Steps.{is_small, look_up}

-- ---- "w1..wn, r1..rn"

pub parts_clocks : (xs : List Clock) → clocks (wholes xs) (ranks xs) ≡ xs
parts_clocks [] = refl
parts_clocks (x ∷ xs) = ap (◌∷◌ x) (parts_clocks xs)

clocks-wholes : (ws rs : List ℕ) → length ws ≡ length rs → wholes (clocks ws rs) ≡ ws
clocks-wholes [] rs h = refl
clocks-wholes (w ∷ ws) [] h = absurd (omega arith)
clocks-wholes (w ∷ ws) (r ∷ rs) h = ap (◌∷◌ w) (clocks-wholes ws rs (omega arith))

clocks-ranks : (ws rs : List ℕ) → length ws ≡ length rs → ranks (clocks ws rs) ≡ rs
clocks-ranks [] [] h = refl
clocks-ranks [] (r ∷ rs) h = absurd (omega arith)
clocks-ranks (w ∷ ws) [] h = absurd (omega arith)
clocks-ranks (w ∷ ws) (r ∷ rs) h = ap (◌∷◌ r) (clocks-ranks ws rs (omega arith))

pub clocks-key : (ws rs : List ℕ) → length ws ≡ length rs → key (clocks ws rs) ≡ ws ++ rs
clocks-key ws rs h = ap₂ ◌++◌ (clocks-wholes ws rs h) (clocks-ranks ws rs h)

pub clocks-length : (ws rs : List ℕ) → length ws ≡ length rs → length (clocks ws rs) ≡ length ws
clocks-length [] rs h = refl
clocks-length (w ∷ ws) [] h = absurd (omega arith)
clocks-length (w ∷ ws) (r ∷ rs) h = ap suc (clocks-length ws rs (omega arith))

nth-clocks : (ws rs : List ℕ) → length ws ≡ length rs → (i : ℕ) → nth (clocks ws rs) i ≡ clock (get_or ws i 0) (get_or rs i 0)
nth-clocks [] [] h i = refl
nth-clocks [] (r ∷ rs) h i = absurd (omega arith)
nth-clocks (w ∷ ws) [] h i = absurd (omega arith)
nth-clocks (w ∷ ws) (r ∷ rs) h zero = refl
nth-clocks (w ∷ ws) (r ∷ rs) h (suc i) = nth-clocks ws rs (omega arith) i

-- ---- numbers kept in bytes

abbrev kept_clock : Clock → Clock
kept_clock x = clock (capped x.whole) (capped x.rank)

abbrev pub kept_clocks : List Clock → List Clock
kept_clocks xs = map kept_clock xs

abbrev pub kept_of : List ℕ → List ℕ → Region
kept_of ws rs = kept_region (get_or ws 0 0) (get_or ws 1 0) (get_or ws 2 0) (get_or rs 0 0) (get_or rs 1 0) (get_or rs 2 0)

module _ (ws rs : List ℕ) (h : length ws ≡ length rs) where
  nth_kept : (i : ℕ) → kept_clock (clock (get_or ws i 0) (get_or rs i 0)) ≡ nth (kept_clocks (clocks ws rs)) i
  nth_kept i = ap kept_clock (sym (nth-clocks ws rs h i)) ∙ sym (get_or-map kept_clock (clocks ws rs) i (clock 0 0))

  kept_struct : kept_of ws rs ≡ struct_of (kept_clocks (clocks ws rs))
  kept_struct = λ i. record {
    w1 = (nth_kept 0 i).whole;
    w2 = (nth_kept 1 i).whole;
    w3 = (nth_kept 2 i).whole;
    r1 = (nth_kept 0 i).rank;
    r2 = (nth_kept 1 i).rank;
    r3 = (nth_kept 2 i).rank;
  }

  pub kept_view : (n : ℕ) → Clocks n → length ws ≡ n → view n (kept_of ws rs) ≡ kept_clocks (clocks ws rs)
  kept_view n k e =
      ap (view n) kept_struct
      ∙ view_struct n k (kept_clocks (clocks ws rs)) (length-map (clocks ws rs) kept_clock ∙ clocks-length ws rs h ∙ e)

-- a number that is kept and is below 255 is itself
same_number : (w : ℕ) → capped w ≤ 254 → capped w ≡ w
same_number w h = omega arith

kept_small : (xs : List Clock) → ((w : ℕ) → Memᴰ w (wholes (kept_clocks xs)) → w ≤ 254)
    → ((r : ℕ) → Memᴰ r (ranks (kept_clocks xs)) → r ≤ 254) → kept_clocks xs ≡ xs
kept_small [] f g = refl
kept_small (x ∷ xs) f g =
    ap₂ ◌∷◌
    (ap₂ clock (same_number x.whole (f (capped x.whole) (Memᴰ.head refl)))
    (same_number x.rank (g (capped x.rank) (Memᴰ.head refl))))
    (kept_small xs (λ w m. f w (Memᴰ.tail m)) (λ r m. g r (Memᴰ.tail m)))

small_kept : (xs : List Clock) → ((w : ℕ) → Memᴰ w (wholes xs) → w ≤ 254) → ((r : ℕ) → Memᴰ r (ranks xs) → r ≤ 254)
    → kept_clocks xs ≡ xs
small_kept [] f g = refl
small_kept (x ∷ xs) f g =
    let a = f x.whole (Memᴰ.head refl) in
    let b = g x.rank (Memᴰ.head refl) in
    ap₂ ◌∷◌ (ap₂ clock (same_number x.whole (omega arith)) (same_number x.rank (omega arith)))
    (small_kept xs (λ w m. f w (Memᴰ.tail m)) (λ r m. g r (Memᴰ.tail m)))

-- what is told of lawful regions alone is told of the kept region
module _ {A : Type 0} (n M : ℕ) (k : Clocks n) (h : Ceiling M) (f : List Clock → A) (z : A)
    (shut : (xs : List Clock) → lawful n M xs ≡ false → f xs ≡ z) where
  pub kept_harmless : (xs : List Clock) → f (kept_clocks xs) ≡ f xs
  kept_harmless xs = by (either (lawful n M xs)) (either (lawful n M (kept_clocks xs)))
    where
      by : (lawful n M xs ≡ true) ⊎ (lawful n M xs ≡ false) → (lawful n M (kept_clocks xs) ≡ true) ⊎ (lawful n M (kept_clocks xs) ≡ false)
          → f (kept_clocks xs) ≡ f xs
      by (inl t) u =
          ap f (small_kept xs (λ w m. omega (arith, lawful_whole n M xs t w m, h.high)) (λ r m. omega (arith, lawful_rank n M xs t r m, k.high)))
      by (inr t) (inl u) =
          let ys = kept_clocks xs in
          ap f (kept_small xs (λ w m. omega (arith, lawful_whole n M ys u w m, h.high)) (λ r m. omega (arith, lawful_rank n M ys u r m, k.high)))
      by (inr t) (inr u) = shut (kept_clocks xs) u ∙ sym (shut xs t)

-- ---- the state of a region at the location of s

pub is_small_law : (g : Region) → (is_small g ≡ true) ↔ Small g
is_small_law g =
    let t = and↔ (and↔ (leb↔ g.w1 max_ceiling) (and↔ (leb↔ g.w2 max_ceiling) (leb↔ g.w3 max_ceiling)))
    (and↔ (leb↔ g.r1 max_clocks) (and↔ (leb↔ g.r2 max_clocks) (leb↔ g.r3 max_clocks))) in (
      λ e. let ((a, (b, c)), (d, (i, j))) = t.0 e in record { w1 = a; w2 = b; w3 = c; r1 = d; r2 = i; r3 = j },
      λ s. t.1 ((s.w1, (s.w2, s.w3)), (s.r1, (s.r2, s.r3))),
    )

module _ (m : Model) (ok : Lawful m) (s : ℕ) (below : s < states m) (xs : List Clock) where
  pub look_none : lawful m.clocks m.ceiling xs ≡ false → None ≡ look_up m s xs
  unfolding look_up
  look_none t = rw t refl

  beside_below : lawful m.clocks m.ceiling xs ≡ true → state_beside m s xs < states m
  unfolding automaton_of
  beside_below t =
      number_below (automaton_of m) m.locations (location_of (automaton_of m) s) (location_below (automaton_of m) m.locations s below)
      ((lawful_law m.clocks m.ceiling xs).0 t)

  pub look_to : (q : ℕ) → look_up m s xs ≡ Some q → (lawful m.clocks m.ceiling xs ≡ true) × (state_beside m s xs ≡ q) × (q < states m)
  unfolding look_up
  look_to q e = by (lawful m.clocks m.ceiling xs) refl e
    where
      by : (b : Bool) → lawful m.clocks m.ceiling xs ≡ b → cond b (Some (state_beside m s xs)) None ≡ Some q
          → (lawful m.clocks m.ceiling xs ≡ true) × (state_beside m s xs ≡ q) × (q < states m)
      by true t f = let z : state_beside m s xs ≡ q = cc in (t, z, subst (λ p. p < states m) z (beside_below t))
      by false t f = absurd (let z : ◌≡◌ {A = ℕ} 0 1 = cc in omega arith)

  pub look_shut : look_up m s xs ≡ None → lawful m.clocks m.ceiling xs ≡ false
  unfolding look_up
  look_shut e = by (lawful m.clocks m.ceiling xs) e
    where
      by : (b : Bool) → cond b (Some (state_beside m s xs)) None ≡ None → b ≡ false
      by true f = absurd (let z : ◌≡◌ {A = ℕ} 0 1 = cc in omega arith)
      by false f = refl

-- as the code looks it up: x is the struct of the first clocks of g
module _ (m : Model) (ok : Lawful m) (table : List ℕ) (listed : Listed m table) (s : ℕ) (below : s < states m) (g x : Region)
    (first : x ≡ struct_of (view m.clocks g)) where
  abbrev xs : List Clock
  xs = view m.clocks g

  long : length xs ≡ m.clocks
  long = length-view m.clocks (clocks_of m ok) g

  viewed : view m.clocks x ≡ xs
  viewed = ap (view m.clocks) first ∙ view_struct m.clocks (clocks_of m ok) xs long

  pub look_large : is_small x ≡ false → None ≡ look_up m s xs
  look_large e = look_none m ok s below xs (false_unless_true (lawful m.clocks m.ceiling xs) λ t.
      let w = subst Small (sym first) (lawful_small m.clocks m.ceiling (clocks_of m ok) (ceiling_of m ok) xs t) in
      true≢false (sym ((is_small_law x).1 w) ∙ e))

  pub look_missing : found_in table (pack x) ≡ None → None ≡ look_up m s xs
  look_missing e = look_none m ok s below xs (false_unless_true (lawful m.clocks m.ceiling xs) λ t.
      let p = subst (λ y. Known m.clocks m.ceiling y) (sym first) (record {
        padded = padded_struct m.clocks (clocks_of m ok) xs long;
        lawful = ap (lawful m.clocks m.ceiling) (view_struct m.clocks (clocks_of m ok) xs long) ∙ t;
      }) in
      at_missing m ok table listed x p e)

  module _ (small : is_small x ≡ true) (i : ℕ) (e : found_in table (pack x) ≡ Some i) where
    pub look_found : (s / length table * length table + i < states m) × (Some (s / length table * length table + i) ≡ look_up m s xs)
    unfolding look_up number_of automaton_of region_count
    look_found =
        let (l, w, r) = found_known m.clocks m.ceiling (clocks_of m ok) (ceiling_of m ok) x ((is_small_law x).0 small) i
        (ap (λ t. found_in t (pack x)) (sym listed) ∙ e) in
        let t : lawful m.clocks m.ceiling xs ≡ true = ap (lawful m.clocks m.ceiling) (sym viewed) ∙ w.lawful in
        let own = at_own_index (automaton_of m) i l in
        let z = r ∙ viewed in
        let number : number_of (automaton_of m) (location_of (automaton_of m) s) xs ≡ s / length table * length table + i
        = ap₂ (λ c j. c + j) (ap₂ (λ a b. a * b) (sym (location_is m ok table listed s below)) (sym (count_length m ok table listed)))
        (rw z at own) in
        let b = number_below (automaton_of m) m.locations (location_of (automaton_of m) s) (location_below (automaton_of m) m.locations s below)
        ((lawful_law m.clocks m.ceiling xs).0 t) in
        (subst (λ q. q < states m) number b, rw t (ap Some (sym number)))
