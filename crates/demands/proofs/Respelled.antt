-- Padding changes an answer to 15 or not at all: evidence and the same with each number in shortest form are read side by side.
use mathlib.Core.Path.{◌≡◌, refl, sym, ap, ◌∙◌}
use mathlib.Core.Bool.{Bool, true, false, cond, ◌&&◌}
use mathlib.Core.Logic.{◌⊎◌, inl, inr}
use mathlib.Core.List.{List, [], ◌∷◌, ◌++◌}
use Prim.Native.Nat.{ℕ, zero, suc, ◌+◌, ◌-◌, ◌*◌, ◌≤◌, ◌<◌}
use native.Mathlib.Decide.{dec_lt}
use native.Mathlib.Omega.{arith}
use lib.ListN.{length, drop, length-append, length-drop}
use lib.Dec.{ltb, eqb}
use borrow.Author.Tests.{lt-ltb, le-ltb}
use Rattle.theory.specs.Region.{Region, clocks, lawful}
use Rattle.theory.specs.Labels.{opens}
use Rattle.theory.specs.Sheet.{in_of, height_of, keeps}
use Rattle.theory.specs.System.{System}
use Rattle.number.specs.Number.{Number, Value, Refused, Spells, read_number, on_number, spell}
use Rattle.number.proofs.Laws.{spells_some, spells_bound}
use Rattle.number.proofs.Spelling.{spell_shortest}
use Rattle.number.proofs.Shortest.{is_shortest, is_padded, spell_is_shortest}
use Rattle.number.proofs.Sequence.{plain, moved, rest_at, not_value}
use Rattle.evidence_number.specs.Evidence.{read_evidence}
use Rattle.evidence_number.specs.Numbers.{Numbers, on_numbers, after}
use Rattle.evidence_number.proofs.Reading.{padded_refused, other_refused}
use Rattle.model.specs.declared.Model.{Model}
use Rattle.graph.specs.Plan.{system_of_model, labelled_of_model}
use Rattle.sheet_numbers.specs.Numbers.{number_keeps, numbers_from}
use Rattle.sheet.specs.Answer.{sheet_refusal}
use Rattle.trail_numbers.specs.Numbers.{jump_label, label_at, numbers_at}
use Rattle.replay.specs.Trail.{Reached}
use Rattle.replay.specs.Trail.{on_reached, run, flow_to, walk_step, closed_walk, on_region, state_beside, face_step_to, touch_step_to, kind_step, trail_step, trail_answer}
use Rattle.evidence.specs.Evidence.{Evidence}
use Rattle.evidence.specs.Evidence.{found, of_kind, checked}
use Rattle.demands.specs.Padding.{Respelled}
use Rattle.evidence_number.specs.Numbers as numbers
use Rattle.evidence_number.proofs.Reading as reading
use Rattle.number.proofs.Sequence as sequence
use Rattle.replay.specs.Trail as reached
use Rattle.evidence.specs.Evidence as evidence

-- ---- shorter, and as empty

respelled_shorter : {xs ys : List ℕ} → Respelled xs ys → length ys ≤ length xs
respelled_shorter (Respelled.rest xs n) = omega arith
respelled_shorter (Respelled.more {g = g} {bs = xs} {cs = ys} {v = v} k t) =
    omega (arith, length-append g xs, length-append (spell v) ys, spell_shortest k, respelled_shorter t)

spell_some : (v : ℕ) → {g : List ℕ} → Spells g v → 1 ≤ length (spell v)
spell_some v k = spells_some (spell_is_shortest v (spells_bound k)).spells

respelled_some : {xs ys : List ℕ} → Respelled xs ys → 1 ≤ length xs → 1 ≤ length ys
respelled_some (Respelled.rest xs n) h = h
respelled_some (Respelled.more {cs = ys} {v = v} k t) h = omega (arith, length-append (spell v) ys, spell_some v k)

-- ---- side by side

-- the choice by one test, in both
on_cond : {X : Type 0} (P : X → X → Type 0) (t : Bool) {x x' y y' : X} → P x x' → P y y' → P (cond t x y) (cond t x' y')
on_cond P true p q = p
on_cond P false p q = q

module _ (cs bs : List ℕ) where
  -- what is left to read from one offset is that from the other respelled
  record Along (at to : ℕ) : Type 0 where
    ahead : to ≤ at
    within : at ≤ length cs
    short : to ≤ length bs
    left : Respelled (drop at cs) (drop to bs)

  abbrev pub Shorter : Type 0
  Shorter = length bs < length cs

  -- the same value, refused alike but not by 15, or padded
  data NumberPair : Number → Number → Type 0 where
    value : {v a t : ℕ} → Along a t → NumberPair (Value v a) (Value v t)
    alike : {r : ℕ} → (r ≡ 15 → ⊥) → NumberPair (Refused r) (Refused r)
    padded : {n : Number} → Shorter → NumberPair (Refused 15) n

  data NumbersPair : Numbers → Numbers → Type 0 where
    values : {vs : List ℕ} {a t : ℕ} → Along a t → NumbersPair (numbers.got vs a) (numbers.got vs t)
    alike : {r : ℕ} → (r ≡ 15 → ⊥) → NumbersPair (numbers.refused r) (numbers.refused r)
    padded : {n : Numbers} → Shorter → NumbersPair (numbers.refused 15) n

  data ReachedPair : Reached → Reached → Type 0 where
    comes : {q a t : ℕ} → Along a t → ReachedPair (reached.At q a) (reached.At q t)
    alike : {r : ℕ} → (r ≡ 15 → ⊥) → ReachedPair (reached.Refused r) (reached.Refused r)
    padded : {n : Reached} → Shorter → ReachedPair (reached.Refused 15) n

  data AnswerPair : ℕ → ℕ → Type 0 where
    alike : {r : ℕ} → (r ≡ 15 → ⊥) → AnswerPair r r
    padded : {n : ℕ} → Shorter → AnswerPair 15 n

  pub data EvidencePair : Evidence → Evidence → Type 0 where
    alike : {e : Evidence} → (e ≡ evidence.Refused 15 → ⊥) → EvidencePair e e
    padded : {e : Evidence} → Shorter → EvidencePair (evidence.Refused 15) e

  module _ {X : Type 0} (P : X → X → Type 0) where
    on_number_lem : {n n' : Number} {go go' : ℕ → ℕ → X} {stop : ℕ → X} → NumberPair n n'
        → ((v a t : ℕ) → Along a t → P (go v a) (go' v t)) → ((r : ℕ) → (r ≡ 15 → ⊥) → P (stop r) (stop r)) → ((x : X) → Shorter → P (stop 15) x)
        → P (on_number n go stop) (on_number n' go' stop)
    on_number_lem (NumberPair.value {v = v} {a = a} {t = t} l) f g h = f v a t l
    on_number_lem (NumberPair.alike {r = r} d) f g h = g r d
    on_number_lem (NumberPair.padded s) f g h = h _ s

    on_numbers_lem : {n n' : Numbers} {go go' : List ℕ → ℕ → X} {stop : ℕ → X} → NumbersPair n n'
        → ((vs : List ℕ) (a t : ℕ) → Along a t → P (go vs a) (go' vs t)) → ((r : ℕ) → (r ≡ 15 → ⊥) → P (stop r) (stop r)) → ((x : X) → Shorter → P (stop 15) x)
        → P (on_numbers n go stop) (on_numbers n' go' stop)
    on_numbers_lem (NumbersPair.values {vs = vs} {a = a} {t = t} l) f g h = f vs a t l
    on_numbers_lem (NumbersPair.alike {r = r} d) f g h = g r d
    on_numbers_lem (NumbersPair.padded s) f g h = h _ s

    on_reached_lem : {n n' : Reached} {go go' : ℕ → ℕ → X} {stop : ℕ → X} → ReachedPair n n'
        → ((q a t : ℕ) → Along a t → P (go q a) (go' q t)) → ((r : ℕ) → (r ≡ 15 → ⊥) → P (stop r) (stop r)) → ((x : X) → Shorter → P (stop 15) x)
        → P (on_reached n go stop) (on_reached n' go' stop)
    on_reached_lem (ReachedPair.comes {q = q} {a = a} {t = t} l) f g h = f q a t l
    on_reached_lem (ReachedPair.alike {r = r} d) f g h = g r d
    on_reached_lem (ReachedPair.padded s) f g h = h _ s

  -- ---- one number

  not_refused : (bs : List ℕ) (at r : ℕ) → read_number (drop at bs) 0 ≡ Refused r → read_number bs at ≡ Refused r
  not_refused bs at r e =
      let z : at + 0 ≡ at = omega arith in
      by (read_number bs at) (ap (λ (i : ℕ). moved at (read_number bs i)) (sym z) ∙ sym (plain.suffix bs at 0) ∙ e)
    where
      by : (n : Number) → moved at n ≡ Refused r → n ≡ Refused r
      by (Value v to) q = absurd (not_value q)
      by (Refused x) q = q

  no_number : (zs : List ℕ) (at to : ℕ) → drop at cs ≡ zs → drop to bs ≡ zs → ((v p : ℕ) → read_number zs 0 ≡ Value v p → ⊥)
      → NumberPair (read_evidence cs at) (read_evidence bs to)
  no_number zs at to d e none = by (read_number zs 0) refl
    where
      other : {r : ℕ} → (r ≡ 1) ⊎ (r ≡ 2) → r ≡ 15 → ⊥
      other (inl z) q = omega (arith, z, q)
      other (inr z) q = omega (arith, z, q)

      by : (n : Number) → read_number zs 0 ≡ n → NumberPair (read_evidence cs at) (read_evidence bs to)
      by (Value v p) q = absurd (none v p q)
      by (Refused r) q =
          let no = other (sequence.refused_within zs 0 r q) in
          let a = (other_refused cs at r no).1 (not_refused cs at r (ap (λ (l : List ℕ). read_number l 0) d ∙ q)) in
          let b = (other_refused bs to r no).1 (not_refused bs to r (ap (λ (l : List ℕ). read_number l 0) e ∙ q)) in
          rw (a, b) (NumberPair.alike no)

  module _ (g xs ys : List ℕ) (v at to : ℕ) (k : Spells g v) (t : Respelled xs ys) (l : Along at to)
      (d : drop at cs ≡ g ++ xs) (e : drop to bs ≡ spell v ++ ys) where
    room : (length cs ≡ at + length g + length xs) × (length bs ≡ to + length (spell v) + length ys)
    room = (
      omega (arith, l.within, length-drop at cs, ap length d, length-append g xs),
      omega (arith, l.short, length-drop to bs, ap length e, length-append (spell v) ys),
    )

    next : Along (at + length g) (to + length (spell v))
    next = record {
      ahead = omega (arith, l.ahead, spell_shortest k);
      within = omega (arith, room.0);
      short = omega (arith, room.1);
      left = rw (rest_at cs at g xs d, rest_at bs to (spell v) ys e) t;
    }

    number_there : NumberPair (read_evidence cs at) (read_evidence bs to)
    number_there = by (dec_lt (length (spell v)) (length g))
      where
        there : read_evidence bs to ≡ Value v (to + length (spell v))
        there = (reading.read_value bs to v (to + length (spell v))).1 (spell v, ys, e, spell_is_shortest v (spells_bound k), refl)

        by : Dec (length (spell v) < length g) → NumberPair (read_evidence cs at) (read_evidence bs to)
        by (yes h) =
            rw ((padded_refused cs at).1 (v, at + length g, (g, xs, d, is_padded k h, refl)))
            (NumberPair.padded (omega (arith, room, l.ahead, h, respelled_shorter t)))
        by (no h) =
            rw ((reading.read_value cs at v (at + length g)).1 (g, xs, d, is_shortest k (omega (arith, h)), refl), there) (NumberPair.value next)

  read_pair : (at to : ℕ) → Along at to → NumberPair (read_evidence cs at) (read_evidence bs to)
  read_pair at to l = by l.left refl refl
    where
      by : {xs ys : List ℕ} → Respelled xs ys → drop at cs ≡ xs → drop to bs ≡ ys → NumberPair (read_evidence cs at) (read_evidence bs to)
      by (Respelled.rest zs none) d e = no_number zs at to d e none
      by (Respelled.more {g = g} {bs = xs} {cs = ys} {v = v} k t) d e = number_there g xs ys v at to k t l d e

  -- ---- the numbers of a sheet

  after_pair : (us : List ℕ) {n n' : Numbers} → NumbersPair n n' → NumbersPair (after us n) (after us n')
  after_pair us (NumbersPair.values l) = NumbersPair.values l
  after_pair us (NumbersPair.alike d) = NumbersPair.alike d
  after_pair us (NumbersPair.padded s) = NumbersPair.padded s

  sheet_numbers : (allowed : ℕ → Bool) (top k i at to : ℕ) → Along at to → NumbersPair (numbers_from allowed top cs k i at) (numbers_from allowed top bs k i to)
  unfolding numbers_from
  sheet_numbers allowed top zero i at to l = NumbersPair.values l
  sheet_numbers allowed top (suc k) i at to l =
      on_number_lem NumbersPair (read_pair at to l)
      (λ v a t p. on_cond NumbersPair (number_keeps (allowed i) top v) (after_pair (v ∷ []) (sheet_numbers allowed top k (i + 1) a t p))
      (NumbersPair.alike {r = 11} (λ z. omega (arith, z))))
      (λ r d. NumbersPair.alike d)
      (λ n s. NumbersPair.padded s)

  -- ---- the numbers and steps of a trail

  numbers_pair : (k at to : ℕ) → Along at to → NumbersPair (numbers_at cs k at) (numbers_at bs k to)
  unfolding numbers_at
  numbers_pair zero at to l = NumbersPair.values l
  numbers_pair (suc k) at to l =
      on_number_lem NumbersPair (read_pair at to l)
      (λ v a t p. on_numbers_lem NumbersPair (numbers_pair k a t p) (λ vs b u q. NumbersPair.values q) (λ r d. NumbersPair.alike d) (λ n s. NumbersPair.padded s))
      (λ r d. NumbersPair.alike d)
      (λ n s. NumbersPair.padded s)

  jump_pair : {n n' : Number} → NumberPair n n' → NumberPair (jump_label n) (jump_label n')
  jump_pair (NumberPair.value l) = NumberPair.value l
  jump_pair (NumberPair.alike d) = NumberPair.alike d
  jump_pair (NumberPair.padded s) = NumberPair.padded s

  label_pair : (at to : ℕ) → Along at to → NumberPair (label_at cs at) (label_at bs to)
  unfolding label_at
  label_pair at to l =
      on_number_lem NumberPair (read_pair at to l)
      (λ kind a t p. on_cond NumberPair (eqb kind 0) (NumberPair.value p)
      (on_cond NumberPair (eqb kind 1) (jump_pair (read_pair a t p)) (NumberPair.alike {r = 13} (λ z. omega (arith, z)))))
      (λ r d. NumberPair.alike d)
      (λ n s. NumberPair.padded s)

  run_pair : (step step' : ℕ → ℕ → Reached) → ((p at to : ℕ) → Along at to → ReachedPair (step p at) (step' p to))
      → (k p at to : ℕ) → Along at to → ReachedPair (run step k p at) (run step' k p to)
  unfolding run
  run_pair step step' f zero p at to l = ReachedPair.comes l
  run_pair step step' f (suc k) p at to l =
      on_reached_lem ReachedPair (f p at to l) (run_pair step step' f k) (λ r d. ReachedPair.alike d) (λ n s. ReachedPair.padded s)

  bad : ReachedPair (reached.Refused 13) (reached.Refused 13)
  bad = ReachedPair.alike {r = 13} (λ z. omega (arith, z))

  module _ (m : Model) where
    flow_pair : (x p at to : ℕ) → Along at to → ReachedPair (flow_to m x p at) (flow_to m x p to)
    unfolding flow_to
    flow_pair x p at to l = on_cond ReachedPair (opens (labelled_of_model m) x p) (ReachedPair.comes l) bad

    walk_step_pair : (p at to : ℕ) → Along at to → ReachedPair (walk_step m cs p at) (walk_step m bs p to)
    unfolding walk_step
    walk_step_pair p at to l =
        on_number_lem ReachedPair (label_pair at to l) (λ x a t q. flow_pair x p a t q) (λ r d. ReachedPair.alike d) (λ n s. ReachedPair.padded s)

    walk_pair : (q at to : ℕ) → Along at to → ReachedPair (closed_walk m cs q at) (closed_walk m bs q to)
    unfolding closed_walk
    walk_pair q at to l =
        on_number_lem ReachedPair (read_pair at to l)
        (λ k a t p. on_cond ReachedPair (eqb k 0) bad
        (on_reached_lem ReachedPair (run_pair (walk_step m cs) (walk_step m bs) walk_step_pair k q a t p)
        (λ z b u o. on_cond ReachedPair (eqb z q) (ReachedPair.comes o) bad)
        (λ r d. ReachedPair.alike d) (λ n s. ReachedPair.padded s)))
        (λ r d. ReachedPair.alike d)
        (λ n s. ReachedPair.padded s)

    region_pair : (n : ℕ) (go go' : Region → ℕ → Reached) → ((xs : Region) (a t : ℕ) → Along a t → ReachedPair (go xs a) (go' xs t))
        → (at to : ℕ) → Along at to → ReachedPair (on_region n cs at go reached.Refused) (on_region n bs to go' reached.Refused)
    region_pair n go go' f at to l =
        on_numbers_lem ReachedPair (numbers_pair n at to l)
        (λ ws a t p. on_numbers_lem ReachedPair (numbers_pair n a t p) (λ rs b u o. f (clocks ws rs) b u o)
        (λ r d. ReachedPair.alike d) (λ x s. ReachedPair.padded s))
        (λ r d. ReachedPair.alike d)
        (λ x s. ReachedPair.padded s)

    face_pair : (p : ℕ) (xs : Region) (at to : ℕ) → Along at to → ReachedPair (face_step_to m p xs at) (face_step_to m p xs to)
    unfolding face_step_to
    face_pair p xs at to l =
        let q = state_beside m p xs in
        on_cond ReachedPair (lawful m.clocks m.ceiling xs && (system_of_model m).face p q) (ReachedPair.comes {q = q} l) bad

    touch_pair : (p : ℕ) (xs : Region) (at to : ℕ) → Along at to → ReachedPair (touch_step_to m cs p xs at) (touch_step_to m bs p xs to)
    unfolding touch_step_to
    touch_pair p xs at to l =
        let q = state_beside m p xs in
        on_cond ReachedPair (lawful m.clocks m.ceiling xs && (system_of_model m).near p q) (walk_pair q at to l) bad

    kind_pair : (p kind at to : ℕ) → Along at to → ReachedPair (kind_step m cs p kind at) (kind_step m bs p kind to)
    kind_pair p kind at to l =
        on_cond ReachedPair (eqb kind 0) (flow_pair 0 p at to l)
        (on_cond ReachedPair (eqb kind 1)
        (on_number_lem ReachedPair (read_pair at to l) (λ e a t q. flow_pair (suc e) p a t q) (λ r d. ReachedPair.alike d) (λ n s. ReachedPair.padded s))
        (on_cond ReachedPair (eqb kind 2) (region_pair m.clocks (face_step_to m p) (face_step_to m p) (face_pair p) at to l)
        (on_cond ReachedPair (eqb kind 3) (region_pair m.clocks (touch_step_to m cs p) (touch_step_to m bs p) (touch_pair p) at to l)
        bad)))

    step_pair : (p at to : ℕ) → Along at to → ReachedPair (trail_step m cs p at) (trail_step m bs p to)
    unfolding trail_step
    step_pair p at to l =
        on_number_lem ReachedPair (read_pair at to l) (λ kind a t q. kind_pair p kind a t q) (λ r d. ReachedPair.alike d) (λ n s. ReachedPair.padded s)

  -- ---- the answers

  -- bytes remain in both or in none
  ends_alike : (at to : ℕ) → Along at to → ltb at (length cs) ≡ ltb to (length bs)
  ends_alike at to l = by (dec_lt at (length cs))
    where
      rest : (length (drop at cs) ≡ length cs - at) × (length (drop to bs) ≡ length bs - to)
      rest = (length-drop at cs, length-drop to bs)

      by : Dec (at < length cs) → ltb at (length cs) ≡ ltb to (length bs)
      by (yes h) =
          let some = respelled_some l.left (omega (arith, rest, h)) in
          lt-ltb at (length cs) h ∙ sym (lt-ltb to (length bs) (omega (arith, rest, some)))
      by (no h) =
          le-ltb at (length cs) (omega (arith, h))
          ∙ sym (le-ltb to (length bs) (omega (arith, rest, h, l.short, respelled_shorter l.left)))

  answer : (r : ℕ) → (r ≡ 15 → ⊥) → AnswerPair r r
  answer r d = AnswerPair.alike d

  sheet_pair : (Y : System) (at to : ℕ) → Along at to → AnswerPair (sheet_refusal Y cs at) (sheet_refusal Y bs to)
  unfolding sheet_refusal
  sheet_pair Y at to l =
      on_numbers_lem AnswerPair (sheet_numbers Y.allowed (2 * Y.size - 1) Y.size 0 at to l)
      (λ vs a t p. rw (ends_alike a t p)
      (on_cond AnswerPair (ltb t (length bs)) (answer 6 (λ z. omega (arith, z)))
      (on_cond AnswerPair (keeps Y (in_of vs) (height_of vs)) (answer 0 (λ z. omega (arith, z))) (answer 12 (λ z. omega (arith, z))))))
      (λ r d. AnswerPair.alike d)
      (λ n s. AnswerPair.padded s)

  trail_pair : (m : Model) (at to : ℕ) → Along at to → AnswerPair (trail_answer m cs at) (trail_answer m bs to)
  unfolding trail_answer
  trail_pair m at to l =
      on_number_lem AnswerPair (read_pair at to l)
      (λ k a t p. on_reached_lem AnswerPair (run_pair (trail_step m cs) (trail_step m bs) (step_pair m) k (system_of_model m).start a t p)
      (λ q b u o. rw (ends_alike b u o)
      (on_cond AnswerPair (ltb u (length bs)) (answer 6 (λ z. omega (arith, z)))
      (on_cond AnswerPair ((system_of_model m).forbidden q) (answer 0 (λ z. omega (arith, z))) (answer 14 (λ z. omega (arith, z))))))
      (λ r d. AnswerPair.alike d) (λ n s. AnswerPair.padded s))
      (λ r d. AnswerPair.alike d)
      (λ n s. AnswerPair.padded s)

  refused_by : (r : ℕ) → (r ≡ 15 → ⊥) → EvidencePair (evidence.Refused r) (evidence.Refused r)
  refused_by r d = EvidencePair.alike (λ e. d (ap refusal_in e))
    where
      refusal_in : Evidence → ℕ
      refusal_in evidence.Sheet = 0
      refusal_in evidence.Trail = 0
      refusal_in (evidence.Refused r) = r

  found_pair : (kind : Evidence) → (kind ≡ evidence.Refused 15 → ⊥) → {r r' : ℕ} → AnswerPair r r' → EvidencePair (found kind r) (found kind r')
  found_pair kind h (AnswerPair.alike {r = r} d) = on_cond EvidencePair (eqb r 0) (EvidencePair.alike h) (refused_by r d)
  found_pair kind h (AnswerPair.padded s) = EvidencePair.padded s

  pub checked_pair : (m : Model) → Respelled cs bs → EvidencePair (checked m cs) (checked m bs)
  unfolding checked of_kind
  checked_pair m t =
      on_number_lem EvidencePair (read_pair 0 0 (record { ahead = omega arith; within = omega arith; short = omega arith; left = t }))
      (λ kind a u l. on_cond EvidencePair (eqb kind 1) (found_pair evidence.Sheet sheet_not (sheet_pair (system_of_model m) a u l))
      (on_cond EvidencePair (eqb kind 2) (found_pair evidence.Trail trail_not (trail_pair m a u l)) (refused_by 10 (λ z. omega (arith, z)))))
      (λ r d. refused_by r d)
      (λ n s. EvidencePair.padded s)
    where
      is_refused : Evidence → ℕ
      is_refused evidence.Sheet = 0
      is_refused evidence.Trail = 0
      is_refused (evidence.Refused r) = 1

      sheet_not : evidence.Sheet ≡ evidence.Refused 15 → ⊥
      sheet_not e = let z : ◌≡◌ {A = ℕ} 0 1 = ap is_refused e in omega (arith, z)

      trail_not : evidence.Trail ≡ evidence.Refused 15 → ⊥
      trail_not e = let z : ◌≡◌ {A = ℕ} 0 1 = ap is_refused e in omega (arith, z)
