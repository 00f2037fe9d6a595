-- Steps one after the other; labels; the walk of a touch, replayed from the part of the bytes that spells it, is the walk.
use Prim.Native.Nat.{ℕ, zero, suc, ◌+◌, ◌-◌, ◌≤◌, ◌<◌}
use native.Mathlib.Omega.{arith}
use mathlib.Core.Path.{◌≡◌, refl, sym, ap, ap₂, subst, ◌∙◌}
use mathlib.Core.Bool.{Bool, true, false, cond}
use mathlib.Core.List.{List}
use lib.ListN.{length, take, drop, length-drop}
use lib.Seq.{take-length, length-take-le}
use lib.Dec.{eqb}
use borrow.Author.Tests.{eqb-true, eq-eqb, ne_eqb}
use Rattle.theory.specs.Labels.{opens}
use Rattle.theory.proofs.Below.{cond_ind}
use Rattle.number.specs.Number.{Number, Value, Refused, on_number}
use Rattle.evidence_number.specs.Evidence.{read_evidence}
use Rattle.evidence_number.proofs.Reading.{Reads, none, more, value_within, reads_first, reads_end, number_suffix, moved, reads_prefix}
use Rattle.trail_numbers.specs.Numbers.{jump_label, kind_label, label_at}
use Rattle.model.specs.declared.Model.{Model}
use Rattle.graph.specs.Plan.{labelled_of_model}
use Rattle.replay.specs.Trail.{Reached}
use Rattle.replay.specs.Spelling.{label_numbers}
use Rattle.replay.specs.Trail.{on_reached, run, flow_to, walk_step, closed_walk}
use Rattle.replay.specs.Steps.{steps_end, walk_part}
use Rattle.replay.proofs.Ways.{number_ind, Refusal, bad, read_refusal, Told, reached, halted, told_map}
use Rattle.replay.specs.Trail as reached

-- ---- steps one after the other

-- the step after the first i of k
module _ (step : ℕ → ℕ → Reached) (k i p at : ℕ) where
  one_more : i < k → run step (k - i) p at ≡ run step (suc (k - (i + 1))) p at
  one_more h = ap (λ (j : ℕ). run step j p at) (omega arith)

  pub run_more : (q to : ℕ) → i < k → step p at ≡ reached.At q to → run step (k - i) p at ≡ run step (k - (i + 1)) q to
  unfolding run
  run_more q to h e = one_more h ∙ simp e

  pub run_stop : (r : ℕ) → i < k → step p at ≡ reached.Refused r → run step (k - i) p at ≡ reached.Refused r
  unfolding run
  run_stop r h e = one_more h ∙ simp e

  pub run_done : k ≤ i → run step (k - i) p at ≡ reached.At p at
  unfolding run
  run_done h = ap (λ (j : ℕ). run step j p at) (let e : k - i ≡ 0 = omega arith in e)

-- what is told of each step, added up
module _ (step : ℕ → ℕ → Reached) (R : ℕ → ℕ → ℕ → ℕ → Type 0) (each : (p at : ℕ) → Told (R p at) (step p at))
    (Q : ℕ → ℕ → ℕ → ℕ → ℕ → Type 0) (nil : (p at : ℕ) → Q 0 p at p at)
    (cons : (k p at q to s end : ℕ) → R p at q to → Q k q to s end → Q (suc k) p at s end) where
  pub run_told : (k p at : ℕ) → Told (Q k p at) (run step k p at)
  unfolding run
  run_told zero p at = reached (nil p at)
  run_told (suc k) p at = by (step p at) (each p at) (run_told k)
    where
      by : (n : Reached) → Told (R p at) n → ((q to : ℕ) → Told (Q k q to) (run step k q to))
          → Told (Q (suc k) p at) (on_reached n (run step k) reached.Refused)
      by (reached.At q to) (reached h) ih = told_map (λ s end. cons k p at q to s end h) (ih q to)
      by (reached.Refused r) (halted h) ih = halted h

-- ---- labels

module _ (bs : List ℕ) where
  -- a label is read, or a refusal
  pub data LabelTold (at : ℕ) : Number → Type 0 where
    label : {x end : ℕ} → Reads bs at (label_numbers x) end → LabelTold at (Value x end)
    stopped : {r : ℕ} → Refusal r → LabelTold at (Refused r)

  pub label_told : (at : ℕ) → LabelTold at (label_at bs at)
  unfolding label_at
  label_told at =
      number_ind (LabelTold at) (read_evidence bs at)
      (λ kind to e. cond_ind (LabelTold at) (eqb kind 0)
      (λ t. label (more (e ∙ ap (λ v. Value v to) (eqb-true kind 0 t)) none))
      (λ t. cond_ind (LabelTold at) (eqb kind 1)
      (λ u. edge to (e ∙ ap (λ v. Value v to) (eqb-true kind 1 u)) (read_evidence bs to) refl)
      (λ u. stopped bad)))
      (λ r e. stopped (read_refusal bs at r e))
    where
      edge : (to : ℕ) → read_evidence bs at ≡ Value 1 to → (n : Number) → read_evidence bs to ≡ n → LabelTold at (jump_label n)
      edge to e (Value v end) f = label (more e (more f none))
      edge to e (Refused r) f = stopped (read_refusal bs to r f)

  pub label_is : (at x end : ℕ) → label_at bs at ≡ Value x end → Reads bs at (label_numbers x) end
  label_is at x end e = by (subst (LabelTold at) e (label_told at))
    where
      by : LabelTold at (Value x end) → Reads bs at (label_numbers x) end
      by (label r) = r

  pub label_refused : (at r : ℕ) → label_at bs at ≡ Refused r → Refusal r
  label_refused at r e = by (subst (LabelTold at) e (label_told at))
    where
      by : LabelTold at (Refused r) → Refusal r
      by (stopped h) = h

  pub is_label : (at x end : ℕ) → Reads bs at (label_numbers x) end → label_at bs at ≡ Value x end
  unfolding label_at
  is_label at zero end s =
      let (to, e, t) = reads_first s in
      simp e (ap (Value 0) (reads_end t))
  is_label at (suc x) end s =
      let (to, e, t) = reads_first s in
      let (last, f, u) = reads_first t in
      simp (e, f) (ap (Value (suc x)) (reads_end u))

  pub label_within : (at x end : ℕ) → label_at bs at ≡ Value x end → (at < end) × (end ≤ length bs)
  label_within at zero end e =
      let (to, r, t) = reads_first (label_is at 0 end e) in
      let z = reads_end t in
      omega (arith, value_within bs at 0 to r)
  label_within at (suc x) end e =
      let (to, r, t) = reads_first (label_is at (suc x) end e) in
      let (last, s, u) = reads_first t in
      let z = reads_end u in
      omega (arith, value_within bs at 1 to r, value_within bs to x last s)

-- ---- labels in a part of the bytes

module _ (bs : List ℕ) (n : ℕ) where
  label_prefix : (at x end : ℕ) → label_at bs at ≡ Value x end → end ≤ n → label_at (take n bs) at ≡ Value x end
  label_prefix at x end e h = is_label (take n bs) at x end (reads_prefix n (label_is bs at x end e) h)

module _ (bs : List ℕ) (a : ℕ) where
  label_moved : (kind to : ℕ) (edge : Number) → kind_label kind (to - a) (moved a edge) ≡ moved a (kind_label kind to edge)
  label_moved kind to edge = by (eqb kind 0) (eqb kind 1) edge
    where
      by : (b c : Bool) (edge : Number)
          → cond b (Value 0 (to - a)) (cond c (jump_label (moved a edge)) (Refused 13))
          ≡ moved a (cond b (Value 0 to) (cond c (jump_label edge) (Refused 13)))
      by true c edge = refl
      by false true (Value e end) = refl
      by false true (Refused r) = refl
      by false false edge = refl

  label_suffix : (i : ℕ) → label_at (drop a bs) i ≡ moved a (label_at bs (a + i))
  unfolding label_at
  label_suffix i = rw (number_suffix bs a i) (by (read_evidence bs (a + i)) refl)
    where
      by : (n : Number) → read_evidence bs (a + i) ≡ n
          → on_number (moved a n) (λ kind to. kind_label kind to (read_evidence (drop a bs) to)) Refused
          ≡ moved a (on_number n (λ kind to. kind_label kind to (read_evidence bs to)) Refused)
      by (Value kind to) e =
          let (b, h) = value_within bs (a + i) kind to e in
          ap (kind_label kind (to - a))
          (number_suffix bs a (to - a) ∙ ap (λ j. moved a (read_evidence bs j)) (let z : a + (to - a) ≡ to = omega arith in z))
          ∙ label_moved kind to (read_evidence bs to)
      by (Refused r) e = refl

-- ---- where the steps of a walk end

module _ (bs : List ℕ) (k i at : ℕ) where
  one_left : i < k → steps_end bs (k - i) at ≡ steps_end bs (suc (k - (i + 1))) at
  one_left h = ap (λ (j : ℕ). steps_end bs j at) (omega arith)

  pub end_more : (x to : ℕ) → i < k → label_at bs at ≡ Value x to → steps_end bs (k - i) at ≡ steps_end bs (k - (i + 1)) to
  unfolding steps_end
  end_more x to h e = one_left h ∙ simp e

  pub end_stop : (r : ℕ) → i < k → label_at bs at ≡ Refused r → steps_end bs (k - i) at ≡ length bs
  unfolding steps_end
  end_stop r h e = one_left h ∙ simp e

  pub end_done : k ≤ i → steps_end bs (k - i) at ≡ at
  unfolding steps_end
  end_done h = ap (λ (j : ℕ). steps_end bs j at) (let e : k - i ≡ 0 = omega arith in e)

module _ (bs : List ℕ) where
  pub end_within : (k at : ℕ) → at ≤ length bs → (at ≤ steps_end bs k at) × (steps_end bs k at ≤ length bs)
  unfolding steps_end
  end_within zero at h = (omega arith, h)
  end_within (suc k) at h = by (label_at bs at) refl (end_within k)
    where
      by : (n : Number) → label_at bs at ≡ n
          → ((to : ℕ) → to ≤ length bs → (to ≤ steps_end bs k to) × (steps_end bs k to ≤ length bs))
          → (at ≤ on_number n (λ x to. steps_end bs k to) (λ r. length bs))
          × (on_number n (λ x to. steps_end bs k to) (λ r. length bs) ≤ length bs)
      by (Value x to) e ih = let (b, c) = label_within bs at x to e in let (d, f) = ih to c in (omega arith, f)
      by (Refused r) e ih = (h, omega arith)

  end_suffix : (a k i : ℕ) → steps_end (drop a bs) k i ≡ steps_end bs k (a + i) - a
  unfolding steps_end
  end_suffix a zero i = omega arith
  end_suffix a (suc k) i = rw (label_suffix bs a i) (by (label_at bs (a + i)) refl (end_suffix a k))
    where
      by : (n : Number) → label_at bs (a + i) ≡ n → ((i : ℕ) → steps_end (drop a bs) k i ≡ steps_end bs k (a + i) - a)
          → on_number (moved a n) (λ x to. steps_end (drop a bs) k to) (λ r. length (drop a bs))
          ≡ on_number n (λ x to. steps_end bs k to) (λ r. length bs) - a
      by (Value x to) e ih =
          let (b, c) = label_within bs (a + i) x to e in
          ih (to - a) ∙ ap (λ j. steps_end bs k j - a) (let z : a + (to - a) ≡ to = omega arith in z)
      by (Refused r) e ih = length-drop a bs

-- ---- the walk in a part of the bytes

abbrev moved_back : ℕ → Reached → Reached
moved_back a (reached.At q to) = reached.At q (to - a)
moved_back a (reached.Refused r) = reached.Refused r

-- a step and what follows it
go_same : (f g : ℕ → ℕ → Reached) (b : Bool) (q to : ℕ) → f q to ≡ g q to
    → on_reached (cond b (reached.At q to) (reached.Refused 13)) f reached.Refused
    ≡ on_reached (cond b (reached.At q to) (reached.Refused 13)) g reached.Refused
go_same f g true q to e = e
go_same f g false q to e = refl

go_at : (f : ℕ → ℕ → Reached) (b : Bool) (q to s end : ℕ)
    → on_reached (cond b (reached.At q to) (reached.Refused 13)) f reached.Refused ≡ reached.At s end → f q to ≡ reached.At s end
go_at f true q to s end e = e
go_at f false q to s end e = absurd (let z : ◌≡◌ {A = ℕ} 0 1 = cc in omega arith)

module _ (m : Model) (bs : List ℕ) where
  flow_moved : (a x p to : ℕ) → flow_to m x p (to - a) ≡ moved_back a (flow_to m x p to)
  unfolding flow_to
  flow_moved a x p to = by (opens (labelled_of_model m) x p)
    where
      by : (b : Bool) → cond b (reached.At ((labelled_of_model m).next x p) (to - a)) (reached.Refused 13)
          ≡ moved_back a (cond b (reached.At ((labelled_of_model m).next x p) to) (reached.Refused 13))
      by true = refl
      by false = refl

  step_suffix : (a p i : ℕ) → walk_step m (drop a bs) p i ≡ moved_back a (walk_step m bs p (a + i))
  unfolding walk_step
  step_suffix a p i = rw (label_suffix bs a i) (by (label_at bs (a + i)))
    where
      by : (n : Number) → on_number (moved a n) (λ x to. flow_to m x p to) reached.Refused
          ≡ moved_back a (on_number n (λ x to. flow_to m x p to) reached.Refused)
      by (Value x to) = flow_moved a x p to
      by (Refused r) = refl

  -- a step leads on in the bytes
  step_on : (p at q to : ℕ) → walk_step m bs p at ≡ reached.At q to → at < to
  unfolding walk_step flow_to
  step_on p at q to = number_ind (λ n. n ≡ reached.At q to → at < to) (label_at bs at)
      (λ x end e. cond_ind (λ n. n ≡ reached.At q to → at < to) (opens (labelled_of_model m) x p)
      (λ t h. let z : end ≡ to = cc in omega (arith, label_within bs at x end e))
      (λ t h. absurd (let z : ◌≡◌ {A = ℕ} 0 1 = cc in omega arith)))
      (λ r e h. absurd (let z : ◌≡◌ {A = ℕ} 0 1 = cc in omega arith))

  walk_suffix : (a k p i : ℕ) → run (walk_step m (drop a bs)) k p i ≡ moved_back a (run (walk_step m bs) k p (a + i))
  unfolding run
  walk_suffix a zero p i = ap (reached.At p) (omega arith)
  walk_suffix a (suc k) p i = rw (step_suffix a p i) (by (walk_step m bs p (a + i)) refl (walk_suffix a k))
    where
      by : (n : Reached) → walk_step m bs p (a + i) ≡ n
          → ((q i : ℕ) → run (walk_step m (drop a bs)) k q i ≡ moved_back a (run (walk_step m bs) k q (a + i)))
          → on_reached (moved_back a n) (run (walk_step m (drop a bs)) k) reached.Refused
          ≡ moved_back a (on_reached n (run (walk_step m bs) k) reached.Refused)
      by (reached.At q to) e ih =
          let b = step_on p (a + i) q to e in
          ih q (to - a) ∙ ap (λ j. moved_back a (run (walk_step m bs) k q j)) (let z : a + (to - a) ≡ to = omega arith in z)
      by (reached.Refused r) e ih = refl

  walk_prefix : (k p i n : ℕ) → i ≤ length bs → steps_end bs k i ≡ n → run (walk_step m (take n bs)) k p i ≡ run (walk_step m bs) k p i
  unfolding run steps_end walk_step flow_to
  walk_prefix zero p i n h e = refl
  walk_prefix (suc k) p i n h e = by (label_at bs i) refl e (walk_prefix k)
    where
      by : (l : Number) → label_at bs i ≡ l → on_number l (λ x to. steps_end bs k to) (λ r. length bs) ≡ n
          → ((q to n : ℕ) → to ≤ length bs → steps_end bs k to ≡ n → run (walk_step m (take n bs)) k q to ≡ run (walk_step m bs) k q to)
          → run (walk_step m (take n bs)) (suc k) p i
          ≡ on_reached (on_number l (λ x to. flow_to m x p to) reached.Refused) (run (walk_step m bs) k) reached.Refused
      by (Value x to) f g ih =
          let (b, c) = label_within bs i x to f in
          let (d, o) = end_within bs k to c in
          let z : label_at (take n bs) i ≡ Value x to = label_prefix bs n i x to f (omega arith) in
          let q = (labelled_of_model m).next x p in
          simp z (go_same (run (walk_step m (take n bs)) k) (run (walk_step m bs) k) (opens (labelled_of_model m) x p) q to (ih q to n c g))
      by (Refused r) f g ih =
          let whole : take n bs ≡ bs = ap (λ j. take j bs) (sym g) ∙ take-length bs in
          ap (λ l. run (walk_step m l) (suc k) p i) whole ∙ simp f

  -- a walk that is replayed ends where its steps end
  walk_offset : (k p at q to : ℕ) → run (walk_step m bs) k p at ≡ reached.At q to → to ≡ steps_end bs k at
  unfolding run steps_end walk_step flow_to
  walk_offset zero p at q to e = cc
  walk_offset (suc k) p at q to e = by (label_at bs at) e (walk_offset k)
    where
      by : (l : Number) → on_reached (on_number l (λ x end. flow_to m x p end) reached.Refused) (run (walk_step m bs) k) reached.Refused
          ≡ reached.At q to
          → ((p at q to : ℕ) → run (walk_step m bs) k p at ≡ reached.At q to → to ≡ steps_end bs k at)
          → to ≡ on_number l (λ x end. steps_end bs k end) (λ r. length bs)
      by (Value x end) f ih =
          let t = (labelled_of_model m).next x p in
          ih t end q to (go_at (run (walk_step m bs) k) (opens (labelled_of_model m) x p) t end q to f)
      by (Refused r) f ih = absurd (let z : ◌≡◌ {A = ℕ} 0 1 = cc in omega arith)

-- ---- the walk of a touch, as the code has it: w is the part of the bytes, d what its replay gives

module _ (bs : List ℕ) (at k p : ℕ) (e : read_evidence bs at ≡ Value k p) where
  part_within : p ≤ length bs
  part_within = (value_within bs at k p e).1

  module _ (w : List ℕ) (hw : w ≡ walk_part bs k p) where
    part_end : p + length w ≡ steps_end bs k p
    part_end =
        let (b, c) = end_within bs k p part_within in
        let z : length w ≡ steps_end bs k p - p
        = ap length hw ∙ length-take-le (steps_end bs k p - p) (drop p bs) (omega (arith, length-drop p bs)) in
        omega arith

    module _ (m : Model) (q : ℕ) (d : Reached) (hd : d ≡ run (walk_step m w) k q 0) where
      part_walk : d ≡ moved_back p (run (walk_step m bs) k q p)
      part_walk =
          let z : p + 0 ≡ p = omega arith in
          let n : steps_end (drop p bs) k 0 ≡ steps_end bs k p - p = end_suffix bs p k 0 ∙ ap (λ j. steps_end bs k j - p) z in
          hd ∙ ap (λ l. run (walk_step m l) k q 0) hw
          ∙ walk_prefix m (drop p bs) k q 0 (steps_end bs k p - p) (omega arith) n
          ∙ walk_suffix m bs p k q 0 ∙ ap (λ j. moved_back p (run (walk_step m bs) k q j)) z

      walk_refused : (r : ℕ) → d ≡ reached.Refused r → run (walk_step m bs) k q p ≡ reached.Refused r
      walk_refused r f = by (run (walk_step m bs) k q p) (sym part_walk ∙ f)
        where
          by : (n : Reached) → moved_back p n ≡ reached.Refused r → n ≡ reached.Refused r
          by (reached.At s i) g = absurd (let z : ◌≡◌ {A = ℕ} 0 1 = cc in omega arith)
          by (reached.Refused x) g = g

      walk_reached : (s i : ℕ) → d ≡ reached.At s i → run (walk_step m bs) k q p ≡ reached.At s (p + length w)
      walk_reached s i f = by (run (walk_step m bs) k q p) refl (sym part_walk ∙ f)
        where
          by : (n : Reached) → run (walk_step m bs) k q p ≡ n → moved_back p n ≡ reached.At s i → n ≡ reached.At s (p + length w)
          by (reached.At t end) h g =
              let z : t ≡ s = cc in
              ap₂ reached.At z (walk_offset m bs k q p t end h ∙ sym part_end)
          by (reached.Refused x) h g = absurd (let z : ◌≡◌ {A = ℕ} 0 1 = cc in omega arith)

      module _ (some : k ≡ 0 → ⊥) where
        pub closed_refused : (r : ℕ) → d ≡ reached.Refused r → d ≡ closed_walk m bs q at
        unfolding closed_walk
        closed_refused r f = simp (f, e, ne_eqb k 0 some, walk_refused r f)

        module _ (s i : ℕ) (f : d ≡ reached.At s i) where
          pub closed_closes : s ≡ q → reached.At q (p + length w) ≡ closed_walk m bs q at
          unfolding closed_walk
          closed_closes c = simp (e, ne_eqb k 0 some, walk_reached s i f, eq-eqb s q c)

          pub closed_open : (s ≡ q → ⊥) → reached.Refused 13 ≡ closed_walk m bs q at
          unfolding closed_walk
          closed_open c = simp (e, ne_eqb k 0 some, walk_reached s i f, ne_eqb s q c)
