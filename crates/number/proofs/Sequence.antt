-- Numbers read one after the other: from one offset to another, in a part of the bytes, and in the paper's form. First for any reading function
-- that reads just what a relation says, then for numbers whose padding is allowed.
use Prim.Native.Nat.{ℕ, zero, suc, ◌+◌, ◌-◌, ◌^◌, ◌≤◌, ◌<◌}
use native.Mathlib.Omega.{arith}
use mathlib.Core.Path.{◌≡◌, refl, sym, ap, ap₂, subst, ◌∙◌}
use mathlib.Core.Logic.{◌↔◌, inl, inr, ◌⊎◌, ⊎_elim}
use mathlib.Core.List.Memᴰ
use mathlib.Core.List.{List, [], ◌∷◌, ◌++◌, Memᴰ}
use lib.ListN.{length, take, drop, replicate, length-drop, length-append, drop_of_length-le}
use lib.Seq.{drop-drop, drop-append_seam, take-append-add, get_or-drop}
use Rattle.std.proofs.lemmas.List.{drop-take}
use Rattle.number.specs.Number.{Number, Value, Refused, Spells, read_number, on_number, spell, spell_all}
use Rattle.number.specs.Shortest.{AreBytes}
use Rattle.number.specs.Sequence.{SpelledBy, SpellsAll, SpellsShortest}
use Rattle.number.proofs.Laws.{Sound, sound, read_value, read_short, read_long, spells_some, spells_bound}
use Rattle.number.proofs.Spelling.{spell_spells, spell_shortest}
use Rattle.number.proofs.Shortest.{is_shortest, shortest_length, shortest_bytes, spell_is_shortest}

-- numbers that fit three groups, list by list
abbrev pub Fit : List ℕ → Type 0
Fit vs = (v : ℕ) → Memᴰ v vs → v < 2 ^ 21

pub fit_none : Fit []
fit_none v h = absurd (Memᴰ.not-nil h)

pub fit_more : {x : ℕ} {vs : List ℕ} → x < 2 ^ 21 → Fit vs → Fit (x ∷ vs)
fit_more {x} {vs} b f v h = by (Memᴰ.cases_cons h)
  where
    by : (v ≡ x) ⊎ Memᴰ v vs → v < 2 ^ 21
    by (inl e) = omega arith
    by (inr k) = f v k

pub fit_alike : (k : ℕ) {v : ℕ} → v < 2 ^ 21 → Fit (replicate k v)
fit_alike zero b = fit_none
fit_alike (suc k) b = fit_more b (fit_alike k b)

pub fit_append : (vs : List ℕ) {ws : List ℕ} → Fit vs → Fit ws → Fit (vs ++ ws)
fit_append vs f g v h = ⊎_elim (f v) (g v) (Memᴰ.append_cases vs h)

-- the same from an offset on, which is taken off the offsets
abbrev pub moved : ℕ → Number → Number
moved a (Value v to) = Value v (to - a)
moved a (Refused r) = Refused r

-- the value and the offset after it
abbrev pub value_in : Number → ℕ
value_in (Value v to) = v
value_in (Refused r) = 0

abbrev pub end_in : Number → ℕ
end_in (Value v to) = to
end_in (Refused r) = 0

pub not_value : {v to r : ℕ} → Value v to ≡ Refused r → ⊥
not_value e = let z : ◌≡◌ {A = ℕ} 1 0 = ap (λ (n : Number). on_number n (λ v to. 1) (λ r. 0)) e in omega (arith, z)

-- a function that reads just the spellings of a relation
pub record Reading (read : List ℕ → ℕ → Number) (R : List ℕ → ℕ → Type 0) : Type 0 where
  pub value : (bs : List ℕ) (at v p : ℕ)
      → (read bs at ≡ Value v p) ↔ ((g : List ℕ) × (rest : List ℕ) × (drop at bs ≡ g ++ rest) × R g v × (p ≡ at + length g))
  pub suffix : (bs : List ℕ) (a i : ℕ) → read (drop a bs) i ≡ moved a (read bs (a + i))
  -- a spelling has a byte, and a value that three groups hold
  pub some : {g : List ℕ} {v : ℕ} → R g v → 1 ≤ length g
  pub small : {g : List ℕ} {v : ℕ} → R g v → v < 2 ^ 21
  -- "What we write uses shortest numbers"
  pub shortest : (v : ℕ) → v < 2 ^ 21 → R (spell v) v

-- the bytes from one offset to another are read as these numbers
pub data ReadsBy (read : List ℕ → ℕ → Number) (bs : List ℕ) : ℕ → List ℕ → ℕ → Type 0 where
  none : {at : ℕ} → ReadsBy read bs at [] at
  more : {at to end v : ℕ} {vs : List ℕ} → read bs at ≡ Value v to → ReadsBy read bs to vs end → ReadsBy read bs at (v ∷ vs) end

module _ {read : List ℕ → ℕ → Number} {bs : List ℕ} where
  pub reads_append : {at to end : ℕ} {vs ws : List ℕ} → ReadsBy read bs at vs to → ReadsBy read bs to ws end → ReadsBy read bs at (vs ++ ws) end
  reads_append none t = t
  reads_append (more r s) t = more r (reads_append s t)

  pub reads_split : {at end : ℕ} (vs : List ℕ) {ws : List ℕ} → ReadsBy read bs at (vs ++ ws) end
      → (to : ℕ) × ReadsBy read bs at vs to × ReadsBy read bs to ws end
  reads_split [] t = (_, none, t)
  reads_split (v ∷ vs) (more r t) = let (to, s, u) = reads_split vs t in (to, more r s, u)

  pub reads_first : {at end v : ℕ} {vs : List ℕ} → ReadsBy read bs at (v ∷ vs) end → (to : ℕ) × (read bs at ≡ Value v to) × ReadsBy read bs to vs end
  reads_first (more {to = to} r t) = (to, r, t)

  pub reads_end : {at end : ℕ} → ReadsBy read bs at [] end → at ≡ end
  reads_end none = refl

-- what follows a number
pub rest_at : (bs : List ℕ) (at : ℕ) (g rest : List ℕ) → drop at bs ≡ g ++ rest → drop (at + length g) bs ≡ rest
rest_at bs at g rest e = sym (drop-drop (length g) at bs) ∙ ap (drop (length g)) e ∙ drop-append_seam g rest

-- where a relation allows the shortest form of each number, those of several spell them
spell_each : {R : List ℕ → ℕ → Type 0} → ((v : ℕ) → v < 2 ^ 21 → R (spell v) v) → (vs : List ℕ) → Fit vs → SpelledBy R (spell_all vs) vs
unfolding spell_all
spell_each f [] h = SpelledBy.none
spell_each f (v ∷ vs) h = SpelledBy.more (f v (h v (Memᴰ.head refl))) (spell_each f vs (λ w k. h w (Memᴰ.tail k)))

module _ {read : List ℕ → ℕ → Number} {R : List ℕ → ℕ → Type 0} (L : Reading read R) where
  module _ (bs : List ℕ) (at v to : ℕ) (e : read bs at ≡ Value v to) where
    pub read_within : (at < to) × (to ≤ length bs)
    read_within =
        let (g, rest, d, k, q) = (L.value bs at v to).0 e in
        let some = L.some k in
        (omega arith, omega (arith, ap length d, length-drop at bs, length-append g rest))

    pub read_small : v < 2 ^ 21
    read_small = let (g, rest, d, k, q) = (L.value bs at v to).0 e in L.small k

    -- in a part of the bytes up to an offset
    pub read_prefix : (n : ℕ) → to ≤ n → read (take n bs) at ≡ Value v to
    read_prefix n h =
        let (g, rest, d, s, q) = (L.value bs at v to).0 e in
        let (a, b) = read_within in
        let split : drop at (take n bs) ≡ g ++ take (n - to) rest
        = ap (λ (k : ℕ). drop at (take k bs)) (let z : n ≡ at + (n - at) = omega arith in z) ∙ drop-take at (n - at) bs ∙ ap (take (n - at)) d
        ∙ ap (λ (k : ℕ). take k (g ++ rest)) (let z : n - at ≡ length g + (n - to) = omega arith in z)
        ∙ take-append-add g rest (n - to) in
        (L.value (take n bs) at v to).1 (g, take (n - to) rest, split, s, q)

  pub reads_within : {bs : List ℕ} {at end : ℕ} {vs : List ℕ} → ReadsBy read bs at vs end → at ≤ length bs → end ≤ length bs
  reads_within none h = h
  reads_within {bs} (more {at = at} {to = to} {v = v} r t) h = reads_within t (read_within bs at v to r).1

  pub reads_last : {bs : List ℕ} {at end : ℕ} {vs : List ℕ} → ReadsBy read bs at vs end → at ≤ end
  reads_last none = omega arith
  reads_last {bs} (more {at = at} {to = to} {v = v} r s) = let h = reads_last s in omega (arith, read_within bs at v to r)

  pub reads_prefix : {bs : List ℕ} (n : ℕ) {at end : ℕ} {vs : List ℕ} → ReadsBy read bs at vs end → end ≤ n → ReadsBy read (take n bs) at vs end
  reads_prefix n none h = none
  reads_prefix {bs} n (more {at = at} {to = to} {v = v} r s) h =
      more (read_prefix bs at v to r n (let b = reads_last s in omega arith)) (reads_prefix n s h)

  -- ---- the paper's form

  pub spelled_some : {l vs : List ℕ} {v : ℕ} → SpelledBy R l (v ∷ vs) → 1 ≤ length l
  spelled_some (SpelledBy.more {g = g} {bs = rest} k s) = omega (arith, length-append g rest, L.some k)

  module _ (bs : List ℕ) where
    pub reads_spelled : {at end : ℕ} {vs : List ℕ} → ReadsBy read bs at vs end → length bs ≤ end → SpelledBy R (drop at bs) vs
    reads_spelled (none {at = at}) h = rw (drop_of_length-le bs h) SpelledBy.none
    reads_spelled (more {at = at} {to = to} {v = v} {vs = vs} r s) h =
        let (g, rest, e, k, q) = (L.value bs at v to).0 r in
        let t = subst (λ l. SpelledBy R l vs) (ap (λ i. drop i bs) q ∙ rest_at bs at g rest e) (reads_spelled s h) in
        subst (λ l. SpelledBy R l (v ∷ vs)) (sym e) (SpelledBy.more k t)

    pub spelled_reads : {l vs : List ℕ} → SpelledBy R l vs → (at : ℕ) → drop at bs ≡ l → (end : ℕ) × ReadsBy read bs at vs end × (length bs ≤ end)
    spelled_reads SpelledBy.none at e = (at, none, omega (arith, length-drop at bs, ap length e))
    spelled_reads (SpelledBy.more {g = g} {bs = rest} {v = v} k s) at e =
        let r = (L.value bs at v (at + length g)).1 (g, rest, e, k, refl) in
        let (end, t, h) = spelled_reads s (at + length g) (rest_at bs at g rest e) in
        (end, more r t, h)

    -- with nothing after
    pub reads_law : (at : ℕ) (vs : List ℕ) → at ≤ length bs → ReadsBy read bs at vs (length bs) ↔ SpelledBy R (drop at bs) vs
    reads_law at vs h = (
      λ r. reads_spelled r (omega arith),
      λ s.
          let (end, t, k) = spelled_reads s at refl in
          let z : end ≡ length bs = omega (arith, reads_within t h) in
          subst (ReadsBy read bs at vs) z t,
    )

  -- the first number, and the others from the offset after it on
  pub spelled_first : {bs vs : List ℕ} {v : ℕ} → SpelledBy R bs (v ∷ vs) → (to : ℕ) × (read bs 0 ≡ Value v to) × SpelledBy R (drop to bs) vs
  spelled_first {vs = vs} (SpelledBy.more {g = g} {bs = rest} {v = v} k s) = (
    length g,
    (L.value _ 0 v (length g)).1 (g, rest, refl, k, omega arith),
    subst (λ (l : List ℕ). SpelledBy R l vs) (sym (drop-append_seam g rest)) s,
  )

  pub first_spelled : (bs vs : List ℕ) (v to : ℕ) → read bs 0 ≡ Value v to → SpelledBy R (drop to bs) vs → SpelledBy R bs (v ∷ vs)
  first_spelled bs vs v to e s =
      let (g, rest, d, k, q) = (L.value bs 0 v to).0 e in
      let t : drop to bs ≡ rest = ap (λ (n : ℕ). drop n bs) q ∙ rest_at bs 0 g rest d in
      subst (λ (l : List ℕ). SpelledBy R l (v ∷ vs)) (sym d) (SpelledBy.more k (subst (λ (l : List ℕ). SpelledBy R l vs) t s))

  -- bytes spell one list of numbers
  pub spelled_once : {bs : List ℕ} (vs ws : List ℕ) → SpelledBy R bs vs → SpelledBy R bs ws → vs ≡ ws
  spelled_once [] [] s t = refl
  spelled_once [] (w ∷ ws) SpelledBy.none t = absurd (omega (arith, spelled_some t))
  spelled_once (v ∷ vs) [] s SpelledBy.none = absurd (omega (arith, spelled_some s))
  spelled_once {bs} (v ∷ vs) (w ∷ ws) s t =
      let (i, e, s') = spelled_first s in
      let (j, f, t') = spelled_first t in
      let q = sym e ∙ f in
      ap₂ ◌∷◌ (ap value_in q) (spelled_once {bs = drop i bs} vs ws s' (subst (λ (k : ℕ). SpelledBy R (drop k bs) ws) (sym (ap end_in q)) t'))

  -- shortest forms spell their numbers
  pub shortest_spelled : (vs : List ℕ) → Fit vs → SpelledBy R (spell_all vs) vs
  shortest_spelled = spell_each L.shortest

-- ---- numbers whose padding is allowed

pub refused_within : (bs : List ℕ) (at r : ℕ) → read_number bs at ≡ Refused r → (r ≡ 1) ⊎ (r ≡ 2)
refused_within bs at r e = by r (subst (Sound bs at) e (sound bs at))
  where
    by : (r : ℕ) → (1 ≤ r) × (r ≤ 2) → (r ≡ 1) ⊎ (r ≡ 2)
    by zero h = absurd (omega arith)
    by (suc zero) h = inl refl
    by (suc (suc r)) h = inr (omega arith)

module _ (bs : List ℕ) (a i : ℕ) where
  number_suffix : read_number (drop a bs) i ≡ moved a (read_number bs (a + i))
  number_suffix = by (read_number bs (a + i)) refl
    where
      by : (n : Number) → read_number bs (a + i) ≡ n → read_number (drop a bs) i ≡ moved a n
      by (Value v to) e =
          let (g, rest, d, s, q) = (read_value bs (a + i) v to).0 e in
          (read_value (drop a bs) i v (to - a)).1 (g, rest, drop-drop i a bs ∙ d, s, omega arith)
      by (Refused r) e = ended (refused_within bs (a + i) r e)
        where
          ended : (r ≡ 1) ⊎ (r ≡ 2) → read_number (drop a bs) i ≡ Refused r
          ended (inl z) =
              let t = (read_short bs (a + i)).0 (e ∙ ap Refused z) in
              (read_short (drop a bs) i).1 (record {
                few = omega (arith, t.few, length-drop a bs);
                follows = λ j p q. rw (get_or-drop a bs j 0) (t.follows (a + j) (omega arith) (omega (arith, length-drop a bs)));
              })
              ∙ ap Refused (sym z)
          ended (inr z) =
              let t = (read_long bs (a + i)).0 (e ∙ ap Refused z) in
              (read_long (drop a bs) i).1 (record {
                three = omega (arith, t.three, length-drop a bs);
                follows = λ j p q. rw (get_or-drop a bs j 0) (t.follows (a + j) (omega arith) (omega arith));
              })
              ∙ ap Refused (sym z)

pub plain : Reading read_number Spells
plain = record { value = read_value; suffix = number_suffix; some = spells_some; small = spells_bound; shortest = spell_spells }

abbrev pub Reads : List ℕ → ℕ → List ℕ → ℕ → Type 0
Reads = ReadsBy read_number

pub value_within : (bs : List ℕ) (at v to : ℕ) → read_number bs at ≡ Value v to → (at < to) × (to ≤ length bs)
value_within = read_within plain

pub spell_reads : (bs : List ℕ) {l vs : List ℕ} → SpellsAll l vs → (at : ℕ) → drop at bs ≡ l → (end : ℕ) × Reads bs at vs end × (length bs ≤ end)
spell_reads bs = spelled_reads plain bs

pub spelled : (vs : List ℕ) → Fit vs → SpellsAll (spell_all vs) vs
spelled = shortest_spelled plain

-- no bytes that spell them are fewer
pub spelled_shortest : {bs vs : List ℕ} → SpellsAll bs vs → length (spell_all vs) ≤ length bs
unfolding spell_all
spelled_shortest SpelledBy.none = omega arith
spelled_shortest (SpelledBy.more {g = g} {bs = bs} {vs = vs} {v = v} k s) =
    omega (arith, length-append (spell v) (spell_all vs), length-append g bs, spell_shortest k, spelled_shortest s)

pub spelled_fit : {bs vs : List ℕ} → SpellsAll bs vs → Fit vs
spelled_fit SpelledBy.none = fit_none
spelled_fit (SpelledBy.more k s) = fit_more (spells_bound k) (spelled_fit s)

-- ---- numbers in shortest form

pub in_any_form : {bs vs : List ℕ} → SpellsShortest bs vs → SpellsAll bs vs
in_any_form SpelledBy.none = SpelledBy.none
in_any_form (SpelledBy.more k s) = SpelledBy.more k.spells (in_any_form s)

pub shortest_total : {bs vs : List ℕ} → SpellsShortest bs vs → length bs ≡ length (spell_all vs)
unfolding spell_all
shortest_total SpelledBy.none = refl
shortest_total (SpelledBy.more {g = g} {bs = bs} {vs = vs} {v = v} k s) =
    omega (arith, length-append (spell v) (spell_all vs), length-append g bs, shortest_length k, shortest_total s)

-- as few bytes in all: then each number has as few as it can
total_shortest : {bs vs : List ℕ} → SpellsAll bs vs → length bs ≤ length (spell_all vs) → SpellsShortest bs vs
unfolding spell_all
total_shortest SpelledBy.none h = SpelledBy.none
total_shortest (SpelledBy.more {g = g} {bs = bs} {vs = vs} {v = v} k s) h =
    let a = length-append (spell v) (spell_all vs) in
    let b = length-append g bs in
    let c = spell_shortest k in
    let d = spelled_shortest s in
    SpelledBy.more (is_shortest k (omega (arith, h, a, b, c, d))) (total_shortest s (omega (arith, h, a, b, c, d)))

-- each number in shortest form: the bytes spell the numbers, and no spelling of them has fewer
pub shortest_sequence : {bs vs : List ℕ} → SpellsShortest bs vs ↔ (SpellsAll bs vs × ((cs : List ℕ) → SpellsAll cs vs → length bs ≤ length cs))
shortest_sequence = (
  λ s. (in_any_form s, λ cs t. omega (arith, shortest_total s, spelled_shortest t)),
  λ (s, least). total_shortest s (least _ (spelled _ (spelled_fit s))),
)

-- what we write is in shortest form, and of bytes nothing else is: the numbers determine them
pub spell_all_shortest : (vs : List ℕ) → Fit vs → SpellsShortest (spell_all vs) vs
spell_all_shortest = spell_each spell_is_shortest

pub one_spelling : {bs vs : List ℕ} → AreBytes bs → SpellsShortest bs vs ↔ ((bs ≡ spell_all vs) × Fit vs)
unfolding spell_all
one_spelling {vs = vs} bytes = (
  λ s. (only bytes s, spelled_fit (in_any_form s)),
  λ (e, f). subst (λ (l : List ℕ). SpellsShortest l vs) (sym e) (spell_all_shortest vs f),
)
  where
    only : {bs vs : List ℕ} → AreBytes bs → SpellsShortest bs vs → bs ≡ spell_all vs
    only bytes SpelledBy.none = refl
    only bytes (SpelledBy.more {g = g} {bs = bs} k s) =
        ap₂ ◌++◌ (shortest_bytes k (λ b m. bytes b (Memᴰ.append_left bs m))) (only (λ b m. bytes b (Memᴰ.append_right g m)) s)
