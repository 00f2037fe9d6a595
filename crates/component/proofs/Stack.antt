-- The steps of the pass keep what holds of its state: a push, a merge, a step back, a pop.
use mathlib.Core.Path.{◌≡◌, refl, sym, ap, ◌∙◌}
use mathlib.Core.Bool.{true}
use mathlib.Core.Logic.{◌⊎◌, ◌↔◌, inl, inr, ⊎_elim}
use mathlib.Core.List.{[]}
use Prim.Native.Nat.{ℕ, suc, ◌+◌, ◌*◌, ◌-◌, ◌≤◌, ◌<◌}
use native.Mathlib.Decide.{ℕ_discrete, dec_lt}
use native.Mathlib.Omega.{arith}
use lib.Dec.{ltb, eqb}
use borrow.Author.Tests.{eqb-true, eq-eqb}
use Rattle.std.proofs.lemmas.Bool.{cases_lt}
use Rattle.theory.specs.Below.{bit}
use Rattle.theory.specs.Walk.{stop}
use Rattle.theory.specs.System.{System, Reaches, OnClosedWalkIn}
use Rattle.theory.specs.Height.{IsHeight}
use Rattle.theory.proofs.Below.{count-le, count_mono, count_strict, false_unless_true, bit-le, ltb↔}
use Rattle.theory.proofs.Component.{reach_join, reach_one, Component, closed_in, in_closed, closed_all, component_height}
use Rattle.component.specs.Stack.{news, Above, Open, Explored, Finished, Stack}
use Rattle.component.specs.Scan.{Low, Merged, height_in, Most, Painted}

-- ---- counting the new nodes

new_as : {m m' : ℕ → ℕ} {n : ℕ} → ((s : ℕ) → s < n → m' s ≡ 0 → m s ≡ 0) → (s : ℕ) → s < n → eqb (m' s) 0 ≡ true → eqb (m s) 0 ≡ true
new_as {m} {m'} f s l e = eq-eqb (m s) 0 (f s l (eqb-true (m' s) 0 e))

pub news-le : (m m' : ℕ → ℕ) (n : ℕ) → ((s : ℕ) → s < n → m' s ≡ 0 → m s ≡ 0) → news m' n ≤ news m n
unfolding news
news-le m m' n f = count_mono n (λ s. eqb (m' s) 0) (λ s. eqb (m s) 0) (new_as f)

pub news-lt : (m m' : ℕ → ℕ) (n t : ℕ) → ((s : ℕ) → s < n → m' s ≡ 0 → m s ≡ 0) → t < n → m t ≡ 0 → (m' t ≡ 0 → ⊥) → news m' n < news m n
unfolding news
news-lt m m' n t f l e g =
    count_strict n (λ s. eqb (m' s) 0) (λ s. eqb (m s) 0) (new_as f) t l
    (false_unless_true (eqb (m' t) 0) λ b. g (eqb-true (m' t) 0 b)) (eq-eqb (m t) 0 e)

pub news_all : (m : ℕ → ℕ) (n : ℕ) → news m n ≤ n
unfolding news
news_all m n = count-le n (λ s. eqb (m s) 0)

-- ---- a list with one place changed

-- f' is f with x at i
pub record Put (f f' : ℕ → ℕ) (i x : ℕ) : Type 0 where
  pub now : f' i ≡ x
  pub else : (j : ℕ) → (j ≡ i → ⊥) → f' j ≡ f j

cases : {f f' : ℕ → ℕ} {i x : ℕ} → Put f f' i x → (j : ℕ) → ((j ≡ i) × (f' j ≡ x)) ⊎ ((j ≡ i → ⊥) × (f' j ≡ f j))
cases {f} {f'} {i} {x} u j = go (ℕ_discrete j i)
  where
    go : Dec (j ≡ i) → ((j ≡ i) × (f' j ≡ x)) ⊎ ((j ≡ i → ⊥) × (f' j ≡ f j))
    go (yes q) = inl (q, rw q u.now)
    go (no q) = inr (q, u.else j q)

-- ---- a push: t is new, and is reached from all of the stack

module _ {Y : System} {S : ℕ} {m st pa sg m' st' pa' sg' : ℕ → ℕ} {top segs depth t : ℕ}
    (I : Stack Y S m st pa sg top segs depth) (t< : t < S) (new : m t ≡ 0) (from : (p : ℕ) → p < top → Reaches Y (st p) t)
    (um : Put m m' t (top + 1)) (us : Put st st' top t) (up : Put pa pa' depth top) (ug : Put sg sg' segs top) where
  new_was : (s : ℕ) → s < S → m' s ≡ 0 → m s ≡ 0
  new_was s l z = ⊎_elim (λ w. rw w.0 new) (λ w. omega arith) (cases um s)

  fewer : news m' S < news m S
  fewer = news-lt m m' S t new_was t< new (λ z. omega (arith, um.now))

  -- what stood on the stack stands there still, and t is on top
  st_old : (p : ℕ) → p < top → st' p ≡ st p
  st_old p l = us.else p (λ q. omega arith)

  st_node : (p : ℕ) → p < top + 1 → st' p < S
  st_node p l = ⊎_elim (λ w. omega arith) (λ w. omega (arith, I.node p (omega arith))) (cases us p)

  -- a node that has a mark of the stack is not t
  not_t : (p : ℕ) → p < top → st p ≡ t → ⊥
  not_t p l q = omega (arith, I.mark p l, ap m q)

  m_mark : (p : ℕ) → p < top + 1 → m' (st' p) ≡ suc p
  m_mark p l =
      ⊎_elim (λ w. rw w.1 (omega (arith, um.now)))
      (λ w. rw w.1 (omega (arith, um.else (st p) (not_t p (omega arith)), I.mark p (omega arith))))
      (cases us p)

  m_held : (s p : ℕ) → s < S → p < S → m' s ≡ suc p → (p < top + 1) × (st' p ≡ s)
  m_held s p l k e = ⊎_elim one' two (cases um s)
    where
      one' : (s ≡ t) × (m' s ≡ top + 1) → (p < top + 1) × (st' p ≡ s)
      one' w = let q : p ≡ top = omega arith in (omega arith, rw q (us.now ∙ sym w.0))

      two : (s ≡ t → ⊥) × (m' s ≡ m s) → (p < top + 1) × (st' p ≡ s)
      two w = let h : (p < top) × (st p ≡ s) = I.held s p l k (omega arith) in (omega arith, st_old p h.0 ∙ h.1)

  pa_path : (i : ℕ) → i < depth + 1 → pa' i < top + 1
  pa_path i l = ⊎_elim (λ w. omega arith) (λ w. omega (arith, I.path i (omega arith))) (cases up i)

  pa_rises : (i j : ℕ) → i < j → j < depth + 1 → pa' i < pa' j
  pa_rises i j l k =
      let o : pa' i ≡ pa i = up.else i (λ q. omega arith) in
      ⊎_elim (λ w. omega (arith, I.path i (omega arith))) (λ w. omega (arith, I.rises i j l (omega arith))) (cases up j)

  open_old : (p : ℕ) → Open pa depth p → Open pa' (depth + 1) p
  open_old p (i, l, e) = (i, omega arith, up.else i (λ q. omega arith) ∙ e)

  open_new : Open pa' (depth + 1) top
  open_new = (depth, omega arith, up.now)

  sg_old : (k : ℕ) → k < segs → sg' k ≡ sg k
  sg_old k l = ug.else k (λ q. omega arith)

  -- a start lies on the stack
  sg_on : (k : ℕ) → k < segs → sg k < top
  sg_on k l = let o : Open pa depth (sg k) = I.starts k l in omega (arith, I.path o.0 o.1, o.2)

  sg_starts : (k : ℕ) → k < segs + 1 → Open pa' (depth + 1) (sg' k)
  sg_starts k l =
      ⊎_elim (λ w. rw w.1 open_new) (λ w. rw w.1 (open_old (sg k) (I.starts k (omega arith)))) (cases ug k)

  sg_climbs : (k l : ℕ) → k < l → l < segs + 1 → sg' k < sg' l
  sg_climbs k l j n =
      let o : sg' k ≡ sg k = sg_old k (omega arith) in
      ⊎_elim (λ w. omega (arith, sg_on k (omega arith))) (λ w. omega (arith, I.climbs k l j (omega arith))) (cases ug l)

  sg_base : sg' 0 ≡ 0
  sg_base = ⊎_elim (λ w. omega (arith, I.none (omega arith))) (λ w. omega (arith, I.base (omega arith))) (cases ug 0)

  above_old : (p q : ℕ) → Above sg' (segs + 1) p q → Above sg segs p q
  above_old p q a k l h = let o : sg' k ≡ sg k = sg_old k l in omega (arith, a k (omega arith) (omega arith))

  above_new : (p q : ℕ) → p < top → Above sg segs p q → Above sg' (segs + 1) p q
  above_new p q n a k l h =
      ⊎_elim (λ w. omega arith) (λ w. omega (arith, a k (omega arith) (omega arith))) (cases ug k)

  st_joined : (p q : ℕ) → p < top + 1 → q < top + 1 → Above sg' (segs + 1) p q → Reaches Y (st' p) (st' q)
  st_joined p q l k a = ⊎_elim first second (cases us p)
    where
      first : (p ≡ top) × (st' p ≡ t) → Reaches Y (st' p) (st' q)
      first w =
          let z : sg' segs ≤ q = a segs (omega arith) (omega (arith, ug.now)) in
          let e : q ≡ p = omega (arith, ug.now) in
          rw e ([], stop)

      second : (p ≡ top → ⊥) × (st' p ≡ st p) → Reaches Y (st' p) (st' q)
      second w =
          ⊎_elim (λ v. rw (w.1, v.1) (from p (omega arith)))
          (λ v. rw (w.1, v.1) (I.joined p q (omega arith) (omega arith) (above_old p q a)))
          (cases us q)

  -- a node that is finished is not t
  m_done : (s : ℕ) → S < m s → S < m' s
  m_done s l = ⊎_elim (λ w. omega (arith, ap m w.0)) (λ w. omega arith) (cases um s)

  st_explored : (p : ℕ) → p < top + 1 → Open pa' (depth + 1) p ⊎ Explored Y S m' st' sg' (top + 1) (segs + 1) p
  st_explored p l =
      ⊎_elim (λ w. inl (rw w.0 open_new))
      (λ w. ⊎_elim (λ o. inl (open_old p o)) (λ x. inr (go (omega arith) w.1 x)) (I.explored p (omega arith)))
      (cases us p)
    where
      go : p < top → st' p ≡ st p → Explored Y S m st sg top segs p → Explored Y S m' st' sg' (top + 1) (segs + 1) p
      go n o x u e =
          ⊎_elim (λ d. inl (m_done u d))
          (λ w. inr (w.0, omega arith, st_old w.0 w.1 ∙ w.2, above_new p w.0 n w.3))
          (x u (rw o at e))

  m_finished : (s : ℕ) → s < S → S < m' s → Finished Y S m' (top + 1 + news m' S) s
  m_finished s l d =
      ⊎_elim (λ w. absurd (omega (arith, I.room, fewer))) (λ w. go w.1 (I.done s l (omega arith))) (cases um s)
    where
      go : m' s ≡ m s → Finished Y S m (top + news m S) s → Finished Y S m' (top + 1 + news m' S) s
      go e f =
          record {
            h = f.h;
            c = f.c;
            is = e ∙ f.is;
            height = f.height;
            closed = f.closed;
            low = omega (arith, f.low, fewer);
            kept = λ u g. m_done u (f.kept u g);
          }

  pub push : Stack Y S m' st' pa' sg' (top + 1) (segs + 1) (depth + 1)
  push =
      record {
        room = omega (arith, I.room, fewer);
        node = st_node;
        mark = m_mark;
        held = m_held;
        path = pa_path;
        rises = pa_rises;
        starts = sg_starts;
        climbs = sg_climbs;
        base = λ l. sg_base;
        none = λ z. omega arith;
        joined = st_joined;
        explored = st_explored;
        done = m_finished;
      }

-- ---- at the current node, the last of the path, which has no step to a new node

module _ {Y : System} {S : ℕ} {m st pa sg : ℕ → ℕ} {top segs depth : ℕ} (cur : ℕ)
    (I : Stack Y S m st pa sg top segs depth) (pos : 0 < depth) (last : pa (depth - 1) ≡ cur) where
  pub cur_on : cur < top
  cur_on = omega (arith, I.path (depth - 1) (omega arith))

  -- the current node is the highest of the path, so it is in the top segment
  path_under : (p : ℕ) → Open pa depth p → (p ≡ cur) ⊎ (p < cur)
  path_under p (i, l, e) = go (ℕ_discrete i (depth - 1))
    where
      go : Dec (i ≡ depth - 1) → (p ≡ cur) ⊎ (p < cur)
      go (yes q) = inl (sym e ∙ ap pa q ∙ last)
      go (no q) = inr (omega (arith, I.rises i (depth - 1) (omega arith) (omega arith)))

  pub sg_under : (k : ℕ) → k < segs → sg k ≤ cur
  sg_under k l = ⊎_elim (λ e. omega arith) (λ j. omega arith) (path_under (sg k) (I.starts k l))

  -- from all of the stack the current node is reached
  pub to_cur : (p : ℕ) → p < top → Reaches Y (st p) (st cur)
  to_cur p l = I.joined p cur l cur_on (λ k j h. sg_under k j)

  -- there is a segment, as the stack is not empty
  pub segs_some : 0 < segs
  segs_some = go (ℕ_discrete segs 0)
    where
      go : Dec (segs ≡ 0) → 0 < segs
      go (yes q) = omega (arith, I.none q, cur_on)
      go (no q) = omega arith

  module _ (into : (s t : ℕ) → Y.flow s t ≡ true → t < S) (w segs' : ℕ) (L : Low Y m (st cur) top w) (M : Merged sg segs w segs') where
    -- a step goes to the lowest place
    to_low : w < top → Y.flow (st cur) (st w) ≡ true
    to_low l =
        let (t, e, q) = L.some l in
        let h : (w < top) × (st w ≡ t) = I.held t w (into (st cur) t e) (omega (arith, I.room)) q in
        rw h.1 e

    sg_mono : (k l : ℕ) → k ≤ l → l < segs → sg k ≤ sg l
    sg_mono k l j n = go (ℕ_discrete k l)
      where
        go : Dec (k ≡ l) → sg k ≤ sg l
        go (yes q) = omega (arith, ap sg q)
        go (no q) = omega (arith, I.climbs k l (omega arith) n)

    above_less : (p q : ℕ) → Above sg segs p q → Above sg segs' p q
    above_less p q a k l h = a k (omega (arith, M.fewer)) h

    merged_joined : (p q : ℕ) → p < top → q < top → Above sg segs' p q → Reaches Y (st p) (st q)
    merged_joined p q l n a = go (dec_lt segs' segs)
      where
        same : (k : ℕ) → k < segs → sg k ≤ w → k < segs'
        same k j h = ⊎_elim (λ x. x) (λ x. absurd (omega (arith, M.over k x j))) (cases_lt k segs')

        go : Dec (segs' < segs) → Reaches Y (st p) (st q)
        go (no x) = I.joined p q l n (λ k j h. a k (omega arith) h)
        go (yes x) =
            ⊎_elim
            (λ (y : p < sg segs').
            I.joined p q l n (λ k j h. ⊎_elim (λ z. a k z h) (λ z. absurd (omega (arith, sg_mono segs' k z j))) (cases_lt k segs')))
            (λ (y : sg segs' ≤ p).
            let z : w < sg segs' = M.over segs' (omega arith) x in
            let u : w < top = omega (arith, sg_under segs' x, cur_on) in
            reach_join Y (to_cur p l)
            (reach_join Y (reach_one Y (to_low u))
            (I.joined w q u n (λ k j h. a k (same k j h) (omega (arith, I.climbs k segs' (same k j h) x))))))
            (cases_lt p (sg segs'))

    merged_explored : (p : ℕ) → Explored Y S m st sg top segs p → Explored Y S m st sg top segs' p
    merged_explored p x t e = ⊎_elim (λ d. inl d) (λ (q, l, o, a). inr (q, l, o, above_less p q a)) (x t e)

    pub merge : Stack Y S m st pa sg top segs' depth
    merge =
        record {
          room = I.room;
          node = I.node;
          mark = I.mark;
          held = I.held;
          path = I.path;
          rises = I.rises;
          starts = λ k l. I.starts k (omega (arith, M.fewer));
          climbs = λ k l j n. I.climbs k l j (omega (arith, M.fewer));
          base = λ l. I.base segs_some;
          none = λ z. absurd (omega (arith, M.some));
          joined = merged_joined;
          explored = λ p l. ⊎_elim (λ o. inl o) (λ x. inr (merged_explored p x)) (I.explored p l);
          done = I.done;
        }

    pub merge_explored : ((t : ℕ) → Y.flow (st cur) t ≡ true → m t ≡ 0 → ⊥) → Explored Y S m st sg top segs' cur
    merge_explored old t e = go (cases_lt S (m t))
      where
        go : (S < m t) ⊎ (m t ≤ S) → (S < m t) ⊎ ((q : ℕ) × (q < top) × (st q ≡ t) × Above sg segs' cur q)
        go (inl d) = inl d
        go (inr d) =
            let n : m t ≡ suc (m t - 1) = omega (arith, old t e) in
            let h : (m t - 1 < top) × (st (m t - 1) ≡ t) = I.held t (m t - 1) (into (st cur) t e) (omega arith) n in
            let g : w ≤ m t - 1 = L.least t (m t - 1) e n in
            inr (m t - 1, h.0, h.1, λ k l j. omega (arith, M.under, sg_mono k (segs' - 1) (omega arith) (omega (arith, M.fewer, M.some))))

  -- ---- back along the path, where the current node is explored and starts no segment

  pub back : Explored Y S m st sg top segs cur → (sg (segs - 1) ≡ cur → ⊥) → Stack Y S m st pa sg top segs (depth - 1)
  back sp no_start =
      record {
        room = I.room;
        node = I.node;
        mark = I.mark;
        held = I.held;
        path = λ i l. I.path i (omega arith);
        rises = λ i j l n. I.rises i j l (omega arith);
        starts = λ k l. shorter k l (I.starts k l);
        climbs = I.climbs;
        base = I.base;
        none = I.none;
        joined = I.joined;
        explored = λ p l. ⊎_elim (left p) (λ x. inr x) (I.explored p l);
        done = I.done;
      }
    where
      left : (p : ℕ) → Open pa depth p → Open pa (depth - 1) p ⊎ Explored Y S m st sg top segs p
      left p (i, l, e) = go (ℕ_discrete i (depth - 1))
        where
          go : Dec (i ≡ depth - 1) → Open pa (depth - 1) p ⊎ Explored Y S m st sg top segs p
          go (yes q) = let r : p ≡ cur = sym e ∙ ap pa q ∙ last in inr (rw r sp)
          go (no q) = inl (i, omega arith, e)

      shorter : (k : ℕ) → k < segs → Open pa depth (sg k) → Open pa (depth - 1) (sg k)
      shorter k l (i, n, e) = go (ℕ_discrete i (depth - 1)) (ℕ_discrete k (segs - 1))
        where
          go : Dec (i ≡ depth - 1) → Dec (k ≡ segs - 1) → Open pa (depth - 1) (sg k)
          go (no q) d = (i, omega arith, e)
          go (yes q) (yes r) = absurd (no_start (ap sg (sym r) ∙ sym e ∙ ap pa q ∙ last))
          go (yes q) (no r) =
              let z : sg k ≡ cur = sym e ∙ ap pa q ∙ last in
              absurd (omega (arith, I.climbs k (segs - 1) (omega arith) (omega arith), sg_under (segs - 1) (omega arith)))

  -- ---- the top segment popped, where the current node is explored and starts it

  In : ℕ → Type 0
  In s = (p : ℕ) × (cur ≤ p) × (p < top) × (st p ≡ s)

  Done : ℕ → Type 0
  Done s = (s < S) × (S < m s)

  module _ (into : (s t : ℕ) → Y.flow s t ≡ true → t < S) (sp : Explored Y S m st sg top segs cur) (start : sg (segs - 1) ≡ cur) where
    -- all of the segment is explored: what is open lies at the current node or below it
    seg_explored : (p : ℕ) → cur ≤ p → p < top → Explored Y S m st sg top segs p
    seg_explored p c l = ⊎_elim (λ o. ⊎_elim (λ e. rw e sp) (λ j. absurd (omega arith)) (path_under p o)) (λ x. x) (I.explored p l)

    -- a step from the segment stays in it or goes to a finished node
    seg_step : (p t : ℕ) → cur ≤ p → p < top → Y.flow (st p) t ≡ true → In t ⊎ Done t
    unfolding In Done
    seg_step p t c l e =
        ⊎_elim (λ d. inr (into (st p) t e, d))
        (λ (q, n, o, a). inl (q, omega (arith, a (segs - 1) (omega (arith, segs_some)) (omega arith)), n, o))
        (seg_explored p c l t e)

    component : Component Y In Done
    unfolding In Done
    component =
        record {
          apart = λ s (p, c, l, e) (k, d). omega (arith, I.mark p l, ap m e, I.room);
          kept = λ s t (k, d) e. (into s t e, (I.done s k d).kept t e);
          leaves = λ s t (p, c, l, o) e. seg_step p t c l (rw o e);
          all = λ s t (p, c, l, o) (q, d, n, u). rw (← o, ← u) (I.joined p q l n (λ k j h. omega (arith, sg_under k j)));
        }

    done_height : (b : ℕ) → Done b → IsHeight Y b (height_in S (m b))
    unfolding Done
    done_height b (k, d) =
        let f = I.done b k d in
        let e : height_in S (m b) ≡ f.h = omega (arith, f.is, bit-le f.c) in
        rw e f.height

    -- the height leaves room, so that a mark is at most 3S
    pub height_low : (h : ℕ) → Most Y S m st cur top h → h + (top + news m S) ≤ S
    height_low h M = ⊎_elim (λ z. omega (arith, I.room)) (λ (p, t, c, l, e, d, z). grown t (into (st p) t e) d z) M.found
      where
        grown : (t : ℕ) → t < S → S < m t → h ≡ suc (height_in S (m t)) → h + (top + news m S) ≤ S
        grown t k d z = let f = I.done t k d in omega (arith, f.is, bit-le f.c, f.low)

    module _ (w h : ℕ) {m' : ℕ → ℕ} (L : Low Y m (st cur) top w)
        (M : Most Y S m st cur top h) (F : Painted m m' st cur top (suc S + (2 * h + bit (ltb w top)))) where
      cur_in : In (st cur)
      unfolding In
      cur_in = (cur, omega arith, cur_on, refl)

      -- the current node lies on a closed walk just if a successor of it is on the stack
      cur_closed : ltb w top ≡ true → OnClosedWalkIn Y (st cur)
      unfolding In Done
      cur_closed b =
          let (t, g, q) = L.some ((ltb↔ w top).0 b) in
          ⊎_elim (λ n. closed_in component (st cur) t cur_in n g)
          (λ d. absurd (omega (arith, I.room, (ltb↔ w top).0 b))) (seg_step cur t (omega arith) cur_on g)

      closed_cur : OnClosedWalkIn Y (st cur) → ltb w top ≡ true
      unfolding In Done
      closed_cur o =
          ⊎_elim (ltb↔ w top).1
          (λ k. absurd (in_closed component (st cur) cur_in (λ t g (p, c, n, e). omega (arith, L.least t p g (ap m (sym e) ∙ I.mark p n))) o))
          (cases_lt w top)

      -- and then all of the segment does
      seg_closed : (s : ℕ) → In s → (ltb w top ≡ true) ↔ OnClosedWalkIn Y s
      seg_closed s n = (λ b. closed_all component (st cur) s cur_in n (cur_closed b), λ o. closed_cur (closed_all component s (st cur) n cur_in o))

      seg_height : (s : ℕ) → In s → IsHeight Y s h
      unfolding In Done
      seg_height =
          component_height component (λ b. height_in S (m b)) done_height h
          (λ s t (p, c, l, o) e (k, d). M.above p t c l (rw o e) d)
          (⊎_elim (λ z. inl z) (λ (p, t, c, l, e, d, z). inr (st p, t, (p, c, l, refl), e, (into (st p) t e, d), z)) M.found)

      -- a node is of the segment, and has its new mark, or has its old one
      kinds : (s : ℕ) → s < S → (In s × (m' s ≡ suc S + (2 * h + bit (ltb w top)))) ⊎ ((In s → ⊥) × (m' s ≡ m s))
      unfolding In
      kinds s l = ⊎_elim first second (cases_lt S (m s))
        where
          R : Type 0
          R = (In s × (m' s ≡ suc S + (2 * h + bit (ltb w top)))) ⊎ ((In s → ⊥) × (m' s ≡ m s))

          old : ((p : ℕ) → cur ≤ p → p < top → m s ≡ suc p → ⊥) → R
          old f = inr (λ (p, c, n, o). f p c n (ap m (sym o) ∙ I.mark p n), F.rest s (λ p c n o. f p c n (ap m (sym o) ∙ I.mark p n)))

          first : S < m s → R
          first d = old (λ p c n e. omega (arith, I.room))

          second : m s ≤ S → R
          second d = ⊎_elim third (λ c. old (λ p n k e. omega arith)) (cases_lt cur (m s))
            where
              third : cur < m s → R
              third c =
                  let (k, o) = I.held s (m s - 1) l (omega arith) (omega arith) in
                  inl ((m s - 1, omega arith, k, o), rw (← o) (F.put (m s - 1) (omega arith) k))

      -- no node is new that was not
      pub no_new : (s : ℕ) → s < S → m' s ≡ 0 → m s ≡ 0
      no_new s l z = ⊎_elim (λ k. absurd (omega arith)) (λ k. omega arith) (kinds s l)

      pub no_more : news m' S ≤ news m S
      no_more = news-le m m' S no_new

      -- what was finished is, and so is the segment
      still : (s : ℕ) → s < S → S < m s → S < m' s
      still s l d = ⊎_elim (λ k. omega arith) (λ k. omega arith) (kinds s l)

      low_mark : (p : ℕ) → p < cur → m' (st p) ≡ suc p
      unfolding In
      low_mark p l =
          F.rest (st p) (λ q c n o. omega (arith, I.mark q n, I.mark p (omega (arith, cur_on)), ap m o)) ∙ I.mark p (omega (arith, cur_on))

      popped_held : (s p : ℕ) → s < S → p < S → m' s ≡ suc p → (p < cur) × (st p ≡ s)
      unfolding In
      popped_held s p l n e = ⊎_elim (λ k. absurd (omega arith)) go (kinds s l)
        where
          go : (In s → ⊥) × (m' s ≡ m s) → (p < cur) × (st p ≡ s)
          go (f, o) =
              let (k, q) = I.held s p l n (omega arith) in
              (⊎_elim (λ x. x) (λ x. absurd (f (p, x, k, q))) (cases_lt p cur), q)

      popped_starts : (k : ℕ) → k < segs - 1 → Open pa (depth - 1) (sg k)
      popped_starts k l = go (I.starts k (omega arith))
        where
          go : Open pa depth (sg k) → Open pa (depth - 1) (sg k)
          go (j, n, e) = short (ℕ_discrete j (depth - 1))
            where
              short : Dec (j ≡ depth - 1) → Open pa (depth - 1) (sg k)
              short (yes q) = absurd (omega (arith, I.climbs k (segs - 1) l (omega arith), ap pa q))
              short (no q) = (j, omega arith, e)

      popped_joined : (p q : ℕ) → p < cur → q < cur → Above sg (segs - 1) p q → Reaches Y (st p) (st q)
      popped_joined p q l n a = I.joined p q (omega (arith, cur_on)) (omega (arith, cur_on)) go
        where
          go : Above sg segs p q
          go k j c = ⊎_elim (λ x. a k x c) (λ x. absurd (omega (arith, eq x))) (cases_lt k (segs - 1))
            where
              eq : segs - 1 ≤ k → sg k ≡ cur
              eq x = let y : k ≡ segs - 1 = omega arith in ap sg y ∙ start

      popped_explored : (p : ℕ) → p < cur → Open pa (depth - 1) p ⊎ Explored Y S m' st sg cur (segs - 1) p
      popped_explored p l = ⊎_elim (λ o. inl (open' o)) (λ x. inr (go x)) (I.explored p (omega (arith, cur_on)))
        where
          open' : Open pa depth p → Open pa (depth - 1) p
          open' (j, n, e) = short (ℕ_discrete j (depth - 1))
            where
              short : Dec (j ≡ depth - 1) → Open pa (depth - 1) p
              short (yes q) = absurd (omega (arith, ap pa q))
              short (no q) = (j, omega arith, e)

          go : Explored Y S m st sg top segs p → Explored Y S m' st sg cur (segs - 1) p
          go x t e = ⊎_elim (λ d. inl (still t (into (st p) t e) d)) on (x t e)
            where
              on : ((q : ℕ) × (q < top) × (st q ≡ t) × Above sg segs p q) → (S < m' t) ⊎ ((q : ℕ) × (q < cur) × (st q ≡ t) × Above sg (segs - 1) p q)
              on (q, n, o, a) =
                  ⊎_elim (λ y. inr (q, y, o, λ k j c. a k (omega arith) c))
                  (λ y. inl (omega (arith, F.put q y n, ap m' o)))
                  (cases_lt q cur)

      popped_done : (s : ℕ) → s < S → S < m' s → Finished Y S m' (cur + news m' S) s
      unfolding In Done
      popped_done s l d = ⊎_elim fresh kept' (kinds s l)
        where
          fresh : In s × (m' s ≡ suc S + (2 * h + bit (ltb w top))) → Finished Y S m' (cur + news m' S) s
          fresh (n, e) =
              record {
                h = h;
                c = ltb w top;
                is = e;
                height = seg_height s n;
                closed = seg_closed s n;
                low = omega (arith, height_low h M, no_more, cur_on);
                kept =
                    λ t g.
                    ⊎_elim (λ (q, c, k, o). omega (arith, F.put q c k, ap m' o)) (λ (k, x). still t k x)
                    (seg_step n.0 t n.1 n.2 (rw n.3 g));
              }

          kept' : (In s → ⊥) × (m' s ≡ m s) → Finished Y S m' (cur + news m' S) s
          kept' (n, e) =
              let f = I.done s l (omega arith) in
              record {
                h = f.h;
                c = f.c;
                is = e ∙ f.is;
                height = f.height;
                closed = f.closed;
                low = omega (arith, f.low, no_more, cur_on);
                kept = λ t g. still t (into s t g) (f.kept t g);
              }

      pub pop : Stack Y S m' st pa sg cur (segs - 1) (depth - 1)
      pop =
          record {
            room = omega (arith, I.room, no_more, cur_on);
            node = λ p l. I.node p (omega (arith, cur_on));
            mark = low_mark;
            held = popped_held;
            path = λ j l. omega (arith, I.rises j (depth - 1) (omega arith) (omega arith));
            rises = λ j k l n. I.rises j k l (omega arith);
            starts = popped_starts;
            climbs = λ k l n j. I.climbs k l n (omega arith);
            base = λ l. I.base segs_some;
            none = λ z. omega (arith, I.base segs_some, ap sg z);
            joined = popped_joined;
            explored = popped_explored;
            done = popped_done;
          }
