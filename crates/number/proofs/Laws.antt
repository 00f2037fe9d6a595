-- What a reading says: its answers are those of the paper's form, no more and no fewer.
use Prim.Native.Nat.{ℕ, ◌+◌, ◌*◌, ◌%◌, ◌^◌, ◌<◌, ◌≤◌}
use native.Mathlib.Omega.{arith}
use native.Mathlib.Numerals.{add-one}
use mathlib.Core.Path.{◌≡◌, refl, sym, ap, ap₂, subst, ◌∙◌}
use mathlib.Core.Logic.{◌↔◌, ◌⊎◌, inl, inr}
use mathlib.Core.List.{List, [], ◌∷◌, ◌++◌}
use mathlib.Core.Bool.{Bool, true, false, cond}
use lib.ListN.{length, get_or, drop, length-append, length-drop}
use lib.Seq.{drop-cons, get_or-drop}
use lib.Dec.{ltb, eqb}
use borrow.Author.Tests.{lt-ltb, le-ltb, ltb-true, ltb-false, eqb-true, eqb-false}
use Rattle.number.specs.Number.{Number, Value, Refused, last, more, Spells, EndsTooSoon, ThirdTopBit, group, read_number}

-- a property of both branches is one of the choice
pub cond_ind : {A : Type 0} (P : A → Type 0) (t : Bool) {x y : A} → (t ≡ true → P x) → (t ≡ false → P y) → P (cond t x y)
cond_ind P true f g = f refl
cond_ind P false f g = g refl

-- the three shapes of a spelling
pub spells_ind : (P : List ℕ → ℕ → Type 0)
    → ((a : ℕ) → a < 128 → P (a ∷ []) a)
    → ((a b : ℕ) → 128 ≤ a → b < 128 → P (a ∷ b ∷ []) (a % 128 + 128 * b))
    → ((a b c : ℕ) → 128 ≤ a → 128 ≤ b → c < 128 → P (a ∷ b ∷ c ∷ []) (a % 128 + 128 * (b % 128) + 16384 * c))
    → {g : List ℕ} {v : ℕ} → Spells g v → P g v
spells_ind P one two three (last {a = a} h) = one a h
spells_ind P one two three (more {a = a} h (last {a = b} k)) = two a b h k
spells_ind P one two three (more {a = a} h (more {a = b} k (last {a = c} m))) =
    subst (P (a ∷ b ∷ c ∷ [])) (omega arith) (three a b c h k m)
spells_ind P one two three (more {a = a} h (more {a = b} k (more {v = v} {bs = bs} _ x16))) = elim x16 [ ]

module _ (bs : List ℕ) where
  -- what holds of each way to go on after a byte holds of the reading
  group_ind : (P : Number → Type 0) (i v : ℕ) (next : Number)
      → (i < length bs → get_or bs i 0 < 128 → P (Value v (i + 1)))
      → (i < length bs → 128 ≤ get_or bs i 0 → P next)
      → (length bs ≤ i → P (Refused 1))
      → P (group bs i v next)
  group_ind P i v next f g h =
      cond_ind P (ltb i (length bs))
      (λ p. cond_ind P (ltb (get_or bs i 0) 128)
      (λ q. f (ltb-true _ _ p) (ltb-true _ _ q))
      (λ q. g (ltb-true _ _ p) (ltb-false _ _ q)))
      (λ p. h (ltb-false _ _ p))

  module _ (i v : ℕ) (next : Number) where
    group_end : i < length bs → get_or bs i 0 < 128 → group bs i v next ≡ Value v (i + 1)
    group_end l h = simp (lt-ltb _ _ l, lt-ltb _ _ h)

    group_on : i < length bs → 128 ≤ get_or bs i 0 → group bs i v next ≡ next
    group_on l h = simp (lt-ltb _ _ l, le-ltb _ _ h)

    group_out : length bs ≤ i → group bs i v next ≡ Refused 1
    group_out l = simp (le-ltb _ _ l)

  -- each byte from one position up to another says that another follows
  Follow : ℕ → ℕ → Type 0
  Follow at j = (i : ℕ) → at ≤ i → i < j → 128 ≤ get_or bs i 0

  follow_more : (at j : ℕ) → Follow at j → 128 ≤ get_or bs j 0 → Follow at (j + 1)
  unfolding Follow
  follow_more at j f h i p q = go (eqb i j) refl
    where
      go : (t : Bool) → eqb i j ≡ t → 128 ≤ get_or bs i 0
      go true e = subst (λ (k : ℕ). 128 ≤ get_or bs k 0) (sym (eqb-true i j e)) h
      go false e = f i p (let d = eqb-false i j e in omega arith)

  take_one : (i : ℕ) → i < length bs → drop i bs ≡ get_or bs i 0 ∷ drop (i + 1) bs
  take_one i h = rw (add-one, drop-cons bs i 0)

  module _ (at : ℕ) where
    -- the paper's form of an answer
    Answers : Number → Type 0
    Answers (Value v p) = (g : List ℕ) × (rest : List ℕ) × (drop at bs ≡ g ++ rest) × Spells g v × (p ≡ at + length g)
    Answers (Refused r) = ((r ≡ 1) × EndsTooSoon bs at) ⊎ ((r ≡ 2) × ThirdTopBit bs at)

    answers : Answers (read_number bs at)
    unfolding read_number Answers Follow
    answers =
        let a = get_or bs at 0 in
        let b = get_or bs (at + 1) 0 in
        let c = get_or bs (at + 1 + 1) 0 in
        let none : Follow at at = λ i p q. absurd (omega arith) in
        group_ind Answers at _ _
        (λ l h. (a ∷ [], drop (at + 1) bs, take_one at l, last h, refl))
        (λ l h. let f1 = follow_more at at none h in
        group_ind Answers (at + 1) _ _
        (λ m k. (a ∷ b ∷ [], drop (at + 1 + 1) bs, take_one at l ∙ ap (◌∷◌ a) (take_one (at + 1) m), more h (last k), omega arith))
        (λ m k. let f2 = follow_more at (at + 1) f1 k in
        group_ind Answers (at + 1 + 1) _ _
        (λ n j. (
          a ∷ b ∷ c ∷ [],
          drop (at + 1 + 1 + 1) bs,
          take_one at l ∙ ap (◌∷◌ a) (take_one (at + 1) m ∙ ap (◌∷◌ b) (take_one (at + 1 + 1) n)),
          subst (Spells (a ∷ b ∷ c ∷ [])) (omega arith) (more h (more k (last j))),
          omega arith,
        ))
        (λ n j. let f3 = follow_more at (at + 1 + 1) f2 j in inr (refl, record { three = omega arith; follows = λ i p q. f3 i p (omega arith) }))
        (λ n. inl (refl, record { few = omega arith; follows = λ i p q. f2 i p (omega arith) })))
        (λ m. inl (refl, record { few = omega arith; follows = λ i p q. f1 i p (omega arith) })))
        (λ l. inl (refl, record { few = omega arith; follows = λ i p q. none i p (omega arith) }))

    -- the ways through a reading
    pub read_none : length bs ≤ at → read_number bs at ≡ Refused 1
    unfolding read_number
    read_none l = group_out at _ _ l

    pub read_1 : at < length bs → get_or bs at 0 < 128 → read_number bs at ≡ Value (get_or bs at 0) (at + 1)
    unfolding read_number
    read_1 l h = group_end at _ _ l h

    module _ (l : at < length bs) (h : 128 ≤ get_or bs at 0) where
      pub read_none_2 : length bs ≤ at + 1 → read_number bs at ≡ Refused 1
      unfolding read_number
      read_none_2 m = group_on at _ _ l h ∙ group_out (at + 1) _ _ m

      pub read_2 : at + 1 < length bs → get_or bs (at + 1) 0 < 128
          → read_number bs at ≡ Value (get_or bs at 0 % 128 + 128 * get_or bs (at + 1) 0) (at + 1 + 1)
      unfolding read_number
      read_2 m k = group_on at _ _ l h ∙ group_end (at + 1) _ _ m k

      module _ (m : at + 1 < length bs) (k : 128 ≤ get_or bs (at + 1) 0) where
        pub read_none_3 : length bs ≤ at + 1 + 1 → read_number bs at ≡ Refused 1
        unfolding read_number
        read_none_3 n = group_on at _ _ l h ∙ group_on (at + 1) _ _ m k ∙ group_out (at + 1 + 1) _ _ n

        pub read_3 : at + 1 + 1 < length bs → get_or bs (at + 1 + 1) 0 < 128
            → read_number bs at ≡ Value (get_or bs at 0 % 128 + 128 * (get_or bs (at + 1) 0 % 128) + 16384 * get_or bs (at + 1 + 1) 0) (at + 1 + 1 + 1)
        unfolding read_number
        read_3 n j = group_on at _ _ l h ∙ group_on (at + 1) _ _ m k ∙ group_end (at + 1 + 1) _ _ n j

        pub read_on : at + 1 + 1 < length bs → 128 ≤ get_or bs (at + 1 + 1) 0 → read_number bs at ≡ Refused 2
        unfolding read_number
        read_on n j = group_on at _ _ l h ∙ group_on (at + 1) _ _ m k ∙ group_on (at + 1 + 1) _ _ n j

    module _ (l : List ℕ) (e : drop at bs ≡ l) where
      element : (k j : ℕ) → j ≡ at + k → get_or bs j 0 ≡ get_or l k 0
      element k j h = ap (λ (i : ℕ). get_or bs i 0) h ∙ sym (get_or-drop at bs k 0) ∙ ap (λ (m : List ℕ). get_or m k 0) e

      room : (k : ℕ) → k < length l → at + k < length bs
      room k h = omega (arith, length-drop at bs, ap length e)

    -- from the paper's form back to the reading
    read_spelled : {g : List ℕ} {v : ℕ} → Spells g v → (rest : List ℕ) → drop at bs ≡ g ++ rest → read_number bs at ≡ Value v (at + length g)
    read_spelled s rest =
        spells_ind (λ (g : List ℕ) (v : ℕ). drop at bs ≡ g ++ rest → read_number bs at ≡ Value v (at + length g))
        (λ a h e.
        let w = a ∷ rest in
        let e0 : get_or bs at 0 ≡ a = element w e 0 at (omega arith) in
        let l : at + 0 < length bs = room w e 0 (omega arith) in
        read_1 (omega arith) (omega arith) ∙ ap₂ Value e0 (omega arith))
        (λ a b h k e.
        let w = a ∷ b ∷ rest in
        let e0 : get_or bs at 0 ≡ a = element w e 0 at (omega arith) in
        let e1 : get_or bs (at + 1) 0 ≡ b = element w e 1 (at + 1) (omega arith) in
        let l : at + 1 < length bs = room w e 1 (omega arith) in
        read_2 (omega arith) (omega arith) l (omega arith) ∙ ap₂ Value (simp (e0, e1)) (omega arith))
        (λ a b c h k m e.
        let w = a ∷ b ∷ c ∷ rest in
        let e0 : get_or bs at 0 ≡ a = element w e 0 at (omega arith) in
        let e1 : get_or bs (at + 1) 0 ≡ b = element w e 1 (at + 1) (omega arith) in
        let e2 : get_or bs (at + 1 + 1) 0 ≡ c = element w e 2 (at + 1 + 1) (omega arith) in
        let l : at + 2 < length bs = room w e 2 (omega arith) in
        read_3 (omega arith) (omega arith) (omega arith) (omega arith) (omega arith) (omega arith)
        ∙ ap₂ Value (simp (e0, e1, e2)) (omega arith))
        s

    read_ended : EndsTooSoon bs at → read_number bs at ≡ Refused 1
    read_ended s = go (ltb at (length bs)) refl (ltb (at + 1) (length bs)) refl
      where
        follows : (i : ℕ) → at ≤ i → i < length bs → 128 ≤ get_or bs i 0
        follows = s.follows

        go : (p : Bool) → ltb at (length bs) ≡ p → (q : Bool) → ltb (at + 1) (length bs) ≡ q → read_number bs at ≡ Refused 1
        go false p q r = read_none (ltb-false _ _ p)
        go true p false r = let l : at < length bs = ltb-true _ _ p in read_none_2 l (follows at (omega arith) l) (ltb-false _ _ r)
        go true p true r =
            let l : at < length bs = ltb-true _ _ p in
            let m : at + 1 < length bs = ltb-true _ _ r in
            read_none_3 l (follows at (omega arith) l) m (follows (at + 1) (omega arith) m) (omega (arith, s.few))

    read_topped : ThirdTopBit bs at → read_number bs at ≡ Refused 2
    read_topped s =
        let three = s.three in
        let on : (i : ℕ) → at ≤ i → i < at + 3 → 128 ≤ get_or bs i 0 = s.follows in
        read_on (omega arith) (on at (omega arith) (omega arith)) (omega arith) (on (at + 1) (omega arith) (omega arith)) (omega arith)
        (on (at + 1 + 1) (omega arith) (omega arith))

-- ---- the reading and the paper's form agree

module _ (bs : List ℕ) (at : ℕ) where
  pub read_value : (v p : ℕ)
      → (read_number bs at ≡ Value v p) ↔ ((g : List ℕ) × (rest : List ℕ) × (drop at bs ≡ g ++ rest) × Spells g v × (p ≡ at + length g))
  unfolding Answers
  read_value v p = (λ e. subst (Answers bs at) e (answers bs at), λ (g, rest, e, s, q). read_spelled bs at s rest e ∙ ap (Value v) (sym q))

  pub read_short : (read_number bs at ≡ Refused 1) ↔ EndsTooSoon bs at
  unfolding Answers
  read_short = (λ e. go (subst (Answers bs at) e (answers bs at)), read_ended bs at)
    where
      go : Answers bs at (Refused 1) → EndsTooSoon bs at
      go (inl (q, s)) = s
      go (inr (q, s)) = absurd (omega arith)

  pub read_long : (read_number bs at ≡ Refused 2) ↔ ThirdTopBit bs at
  unfolding Answers
  read_long = (λ e. go (subst (Answers bs at) e (answers bs at)), read_topped bs at)
    where
      go : Answers bs at (Refused 2) → ThirdTopBit bs at
      go (inl (q, s)) = absurd (omega arith)
      go (inr (q, s)) = s

-- ---- what follows for every reading

pub spells_bound : {g : List ℕ} {v : ℕ} → Spells g v → v < 2 ^ 21
spells_bound =
    spells_ind (λ (g : List ℕ) (v : ℕ). v < 2 ^ 21) (λ a h. omega arith) (λ a b h k. omega arith) (λ a b c h k m. omega arith)

pub spells_some : {g : List ℕ} {v : ℕ} → Spells g v → 1 ≤ length g
spells_some (last h) = omega arith
spells_some (more h s) = omega arith

-- a value is below 2 ^ 21 and the next position is further on, at most at the end; a refusal is 1 or 2
abbrev pub Sound : List ℕ → ℕ → Number → Type 0
Sound bs at (Value v p) = (v < 2 ^ 21) × (at < p) × (p ≤ length bs)
Sound bs at (Refused r) = (1 ≤ r) × (r ≤ 2)

pub sound : (bs : List ℕ) (at : ℕ) → Sound bs at (read_number bs at)
unfolding Answers
sound bs at = go (read_number bs at) (answers bs at)
  where
    go : (n : Number) → Answers bs at n → Sound bs at n
    go (Value v p) (g, rest, e, s, q) =
        let some : 1 ≤ length g = spells_some s in
        (spells_bound s, omega arith, omega (arith, ap length e, length-drop at bs, length-append g rest))
    go (Refused r) (inl (q, s)) = omega arith
    go (Refused r) (inr (q, s)) = omega arith

spells_few : {g : List ℕ} {v : ℕ} → Spells g v → length g ≤ 3
spells_few = spells_ind (λ (g : List ℕ) (v : ℕ). length g ≤ 3) (λ a h. omega arith) (λ a b h k. omega arith) (λ a b c h k m. omega arith)

-- a number takes at most three bytes
pub read_near : (bs : List ℕ) (at v p : ℕ) → read_number bs at ≡ Value v p → p ≤ at + 3
read_near bs at v p e = let (g, rest, d, s, q) = (read_value bs at v p).0 e in omega (arith, spells_few s)

-- bytes that agree below an index, in what they are and in where they end
pub record Agree (n : ℕ) (bs cs : List ℕ) : Type 0 where
  pub ends : (i : ℕ) → i < n → ltb i (length bs) ≡ ltb i (length cs)
  pub bytes : (i : ℕ) → i < n → get_or bs i 0 ≡ get_or cs i 0

-- read alike where three bytes and more are below it
pub read_same : {n : ℕ} {bs cs : List ℕ} → Agree n bs cs → (at : ℕ) → at + 3 ≤ n → read_number bs at ≡ read_number cs at
unfolding read_number
read_same {n} a at h =
    let h0 : at < n = omega arith in
    let h1 : at + 1 < n = omega arith in
    let h2 : at + 1 + 1 < n = omega arith in
    rw (a.ends at h0, a.ends (at + 1) h1, a.ends (at + 1 + 1) h2, a.bytes at h0, a.bytes (at + 1) h1, a.bytes (at + 1 + 1) h2) refl
