-- Clocks that are 0 change nothing: each definition on a region with k such clocks after it, for any k.
use Prim.Native.Nat.{ℕ, zero, suc, ◌+◌, max}
use native.Mathlib.Omega.{arith}
use mathlib.Core.Path.{◌≡◌, refl, sym, ap, ap₂, ◌∙◌}
use mathlib.Core.Bool.{Bool, true, false, not, cond, ◌&&◌, ◌||◌}
use mathlib.Core.List.{List, [], ◌∷◌, ◌++◌, map, map-map, append_cancel_right}
use lib.Dec.{eqb, leb, leb-zero, leb-suc-zero, eqb-zero-suc}
use lib.ListN.{length, replicate, replicate-append-replicate, length-replicate}
use Rattle.theory.specs.Lists.{every, some, same, down}
use Rattle.theory.specs.Region.{Clock, clock, fits, attains, has_rank, top_rank, raise, corners, has_corner, face, shares, lawful, ranks_upto, renumber, close_up, reset_clocks, rounded_up}
use Rattle.theory.proofs.Below.{bool_ext}
use Rattle.theory.proofs.Lists.{same_law}

-- k further clocks that are 0
abbrev pub pad : ℕ → List Clock → List Clock
pad k xs = xs ++ replicate k (clock 0 0)

abbrev pub zeros : ℕ → List ℕ → List ℕ
zeros k p = p ++ replicate k 0

-- ---- limits

rest_fits : (ds : List ℕ) → fits (replicate (length ds) (clock 0 0)) ds ≡ true
unfolding fits
rest_fits [] = refl
rest_fits (d ∷ ds) = rw (leb-zero d) (rest_fits ds)

pub pad-fits : (xs : List Clock) (cs ds : List ℕ) → length xs ≡ length cs → fits (pad (length ds) xs) (cs ++ ds) ≡ fits xs cs
unfolding fits
pad-fits [] [] ds e = rest_fits ds
pad-fits [] (c ∷ cs) ds e = absurd (omega arith)
pad-fits (x ∷ xs) [] ds e = absurd (omega arith)
pad-fits (x ∷ xs) (c ∷ cs) ds e = ap (λ (b : Bool). leb (rounded_up x.whole x.rank) c && b) (pad-fits xs cs ds (omega arith))

rest_attains : (k : ℕ) → attains (replicate k (clock 0 0)) (replicate k 0) ≡ true
unfolding attains
rest_attains zero = refl
rest_attains (suc k) = rest_attains k

pub pad-attains : (k : ℕ) (xs : List Clock) (cs : List ℕ) → length xs ≡ length cs → attains (pad k xs) (zeros k cs) ≡ attains xs cs
unfolding attains
pad-attains k [] [] e = rest_attains k
pad-attains k [] (c ∷ cs) e = absurd (omega arith)
pad-attains k (x ∷ xs) [] e = absurd (omega arith)
pad-attains k (x ∷ xs) (c ∷ cs) e = ap (λ (b : Bool). leb c x.whole && b) (pad-attains k xs cs (omega arith))

-- ---- ranks

rest_rank : (k r : ℕ) → has_rank (replicate k (clock 0 0)) (suc r) ≡ false
rest_rank zero r = refl
rest_rank (suc k) r = rw (eqb-zero-suc r) (rest_rank k r)

pad_rank : (k : ℕ) (xs : List Clock) (r : ℕ) → has_rank (pad k xs) (suc r) ≡ has_rank xs (suc r)
pad_rank k [] r = rest_rank k r
pad_rank k (x ∷ xs) r = ap (λ (b : Bool). eqb x.rank (suc r) || b) (pad_rank k xs r)

rest_top : (k : ℕ) → top_rank (replicate k (clock 0 0)) ≡ 0
rest_top zero = refl
rest_top (suc k) = omega (arith, rest_top k)

pub pad_top : (k : ℕ) (xs : List Clock) → top_rank (pad k xs) ≡ top_rank xs
pad_top k [] = rest_top k
pad_top k (x ∷ xs) = ap (λ (m : ℕ). max x.rank m) (pad_top k xs)

every-down : (p q : ℕ → Bool) (g : ℕ) → ((t : ℕ) → p (suc t) ≡ q (suc t)) → every p (down g) ≡ every q (down g)
every-down p q zero h = refl
every-down p q (suc g) h = rw (h g, every-down p q g h) refl

pub pad-lawful : (k n M : ℕ) (xs : List Clock) → length xs ≡ n → lawful (n + k) M (pad k xs) ≡ lawful n M xs
unfolding lawful
pad-lawful k n M xs e = ap₂ ◌&&◌ within ranked
  where
    within : fits (pad k xs) (replicate (n + k) M) ≡ fits xs (replicate n M)
    within =
        ap (fits (pad k xs)) (sym (replicate-append-replicate n k M))
        ∙ ap (λ (j : ℕ). fits (pad j xs) (replicate n M ++ replicate k M)) (sym (length-replicate k M))
        ∙ pad-fits xs (replicate n M) (replicate k M) (e ∙ sym (length-replicate n M))

    ranked : every (has_rank (pad k xs)) (down (top_rank (pad k xs))) ≡ every (has_rank xs) (down (top_rank xs))
    ranked = rw (pad_top k xs) (every-down (has_rank (pad k xs)) (has_rank xs) (top_rank xs) (pad_rank k xs))

-- ---- resets

pad_upto : (k : ℕ) (xs : List Clock) (r : ℕ) → ranks_upto (pad k xs) r ≡ ranks_upto xs r
pad_upto k xs zero = refl
pad_upto k xs (suc r) = rw (pad_rank k xs r, pad_upto k xs r) refl

pad-renumber : (k : ℕ) (f h : ℕ → ℕ) (xs : List Clock) → ((r : ℕ) → f r ≡ h r) → f 0 ≡ 0 → renumber f (pad k xs) ≡ pad k (renumber h xs)
pad-renumber zero f h [] e z = refl
pad-renumber (suc k) f h [] e z = rw (z, pad-renumber k f h [] e z) refl
pad-renumber k f h (x ∷ xs) e z = rw (e x.rank, pad-renumber k f h xs e z) refl

pub pad-close_up : (k : ℕ) (xs : List Clock) → close_up (pad k xs) ≡ pad k (close_up xs)
pad-close_up k xs = pad-renumber k (ranks_upto (pad k xs)) (ranks_upto xs) xs (pad_upto k xs) refl

rest_reset : (cs : List Bool) → reset_clocks cs (replicate (length cs) (clock 0 0)) ≡ replicate (length cs) (clock 0 0)
rest_reset [] = refl
rest_reset (true ∷ cs) = ap (λ (l : List Clock). clock 0 0 ∷ l) (rest_reset cs)
rest_reset (false ∷ cs) = ap (λ (l : List Clock). clock 0 0 ∷ l) (rest_reset cs)

pub pad_reset : (bs cs : List Bool) (xs : List Clock) → length bs ≡ length xs
    → reset_clocks (bs ++ cs) (pad (length cs) xs) ≡ pad (length cs) (reset_clocks bs xs)
pad_reset [] cs [] e = rest_reset cs
pad_reset [] cs (x ∷ xs) e = absurd (omega arith)
pad_reset (b ∷ bs) cs [] e = absurd (omega arith)
pad_reset (true ∷ bs) cs (x ∷ xs) e = ap (λ (l : List Clock). clock 0 0 ∷ l) (pad_reset bs cs xs (omega arith))
pad_reset (false ∷ bs) cs (x ∷ xs) e = ap (λ (l : List Clock). x ∷ l) (pad_reset bs cs xs (omega arith))

-- ---- corners

rest_raise : (k t : ℕ) → raise (suc t) (replicate k (clock 0 0)) ≡ replicate k 0
rest_raise zero t = refl
rest_raise (suc k) t = rw (leb-suc-zero t, rest_raise k t) refl

pub pad-raise : (k t : ℕ) (xs : List Clock) → raise (suc t) (pad k xs) ≡ zeros k (raise (suc t) xs)
pad-raise k t [] = rest_raise k t
pad-raise k t (x ∷ xs) = ap (λ (l : List ℕ). cond (leb (suc t) x.rank) (x.whole + 1) x.whole ∷ l) (pad-raise k t xs)

map-down : {A : Type 0} (f h : ℕ → A) (g : ℕ) → ((t : ℕ) → f (suc t) ≡ h (suc t)) → map f (down g) ≡ map h (down g)
map-down f h zero e = refl
map-down f h (suc g) e = rw (e g, map-down f h g e) refl

pub pad-corners : (k : ℕ) (xs : List Clock) → corners (pad k xs) ≡ map (zeros k) (corners xs)
unfolding corners
pad-corners k xs =
    let ts = down (suc (top_rank xs)) in
    ap (λ (g : ℕ). map (λ t. raise t (pad k xs)) (down (suc g))) (pad_top k xs)
    ∙ map-down (λ t. raise t (pad k xs)) (λ t. zeros k (raise t xs)) (suc (top_rank xs)) (λ t. pad-raise k t xs)
    ∙ sym (map-map (zeros k) (λ t. raise t xs) ts)

some-map : {A B : Type 0} (f : A → B) (p : B → Bool) (q : A → Bool) (l : List A) → ((x : A) → p (f x) ≡ q x) → some p (map f l) ≡ some q l
some-map f p q [] e = refl
some-map f p q (x ∷ l) e = rw (e x, some-map f p q l e) refl

every-map : {A B : Type 0} (f : A → B) (p : B → Bool) (q : A → Bool) (l : List A) → ((x : A) → p (f x) ≡ q x) → every p (map f l) ≡ every q l
every-map f p q [] e = refl
every-map f p q (x ∷ l) e = rw (e x, every-map f p q l e) refl

pad_same : (k : ℕ) (p q : List ℕ) → same (zeros k p) (zeros k q) ≡ same p q
pad_same k p q =
    bool_ext (same (zeros k p) (zeros k q)) (same p q)
    (λ e. (same_law p q).1 (append_cancel_right p q (replicate k 0) ((same_law (zeros k p) (zeros k q)).0 e)))
    (λ e. (same_law (zeros k p) (zeros k q)).1 (ap (zeros k) ((same_law p q).0 e)))

pub pad-has_corner : (k : ℕ) (xs : List Clock) (p : List ℕ) → has_corner (pad k xs) (zeros k p) ≡ has_corner xs p
unfolding has_corner
pad-has_corner k xs p = rw (pad-corners k xs) (some-map (zeros k) (same (zeros k p)) (same p) (corners xs) (pad_same k p))

pub pad-shares : (k : ℕ) (xs ys : List Clock) → shares (pad k xs) (pad k ys) ≡ shares xs ys
unfolding shares
pad-shares k xs ys = rw (pad-corners k xs) (some-map (zeros k) (has_corner (pad k ys)) (has_corner ys) (corners xs) (pad-has_corner k ys))

pad_inside : (k : ℕ) (xs ys : List Clock) → every (has_corner (pad k ys)) (corners (pad k xs)) ≡ every (has_corner ys) (corners xs)
pad_inside k xs ys = rw (pad-corners k xs) (every-map (zeros k) (has_corner (pad k ys)) (has_corner ys) (corners xs) (pad-has_corner k ys))

pub pad-face : (k : ℕ) (xs ys : List Clock) → face (pad k xs) (pad k ys) ≡ face xs ys
unfolding face
pad-face k xs ys = ap₂ (λ (a b : Bool). a && not b) (pad_inside k ys xs) (pad_inside k xs ys)
