-- A reading looks at no byte behind those of the longest model, but for whether there is one: bytes cut later than that are refused alike and spell the
-- same model.
use Prim.Native.Nat.{ℕ, zero, suc, ◌+◌, ◌*◌, ◌-◌, ◌^◌, ◌≤◌, ◌<◌}
use native.Mathlib.Omega.{arith}
use native.Mathlib.Decide.{dec_le}
use mathlib.Core.Path.{◌≡◌, refl, sym, ap, ◌∙◌}
use mathlib.Core.List.{List}
use mathlib.Core.Bool.{Bool, true, false, cond, ◌&&◌}
use lib.ListN.{length, take}
use lib.Seq.{get_or-take, take_all, length-take-le}
use lib.Dec.{leb, eqb}
use borrow.Author.Tests.{lt-ltb}
use Rattle.number.proofs.Laws.{cond_ind, read_near, Agree, read_same}
use Rattle.number.specs.Number.{Number, read_number}
use Rattle.parser.specs.Parse.{Field}
use Rattle.parser.specs.Parse.{Value, Refused}
use Rattle.parser.specs.Parse.{State}
use Rattle.limits.specs.Limits.{max_clocks, max_ceiling, max_locations, max_edges, newest_mark}
use Rattle.model.specs.Each.{each}
use Rattle.parser.specs.Parse.{within, field_at, on_field, unless_stopped, going, stopped, blank, refused, finish, kind_at, invariant_at, ends_at, guard_at, parse_location, parse_edge, parse_body, parse_counts, parse_model}
use Rattle.plan_reader.specs.Accept.{judged, read_model}
use Rattle.parser.specs.Longest.{location_bytes, edge_bytes, header_bytes, max_model_bytes}
use Rattle.parser.proofs.Fields.{field_value}
use Rattle.number.specs.Number as number

-- rounds that do the same, as long as what each of them keeps holds
each_same : {A : Type 0} (P : ℕ → A → Type 0) (f g : ℕ → A → A) (n : ℕ) (s : A) → P 0 s
    → ((i : ℕ) (t : A) → i < n → P i t → (f i t ≡ g i t) × P (suc i) (f i t))
    → (each n f s ≡ each n g s) × P n (each n f s)
unfolding each
each_same P f g zero s p h = (refl, p)
each_same P f g (suc n) s p h =
    let (e, q) = each_same P f g n s p (λ i t b. h i t (omega arith)) in
    let (d, r) = h n (each n f s) (omega arith) q in
    (d ∙ ap (g n) e, r)

-- the position after a field is at most three further on
field_near : (bs : List ℕ) (at low high refusal v p : ℕ) → field_at bs at low high refusal ≡ Value v p → p ≤ at + 3
unfolding field_at
field_near bs at low high refusal v p e = go (read_number bs at) refl e
  where
    near : (w q : ℕ) → read_number bs at ≡ number.Value w q → (b : Bool) → cond b (Value w q) (Refused refusal) ≡ Value v p → p ≤ at + 3
    near w q r true d = let same : q ≡ p = cc in omega (arith, read_near bs at w q r)
    near w q r false d = absurd (let z : ◌≡◌ {A = ℕ} 0 1 = cc in omega arith)

    go : (n : Number) → read_number bs at ≡ n → within low high refusal n ≡ Value v p → p ≤ at + 3
    go (number.Value w q) r d = near w q r (leb low w && leb w high) d
    go (number.Refused k) r d = absurd (let z : ◌≡◌ {A = ℕ} 0 1 = cc in omega arith)

module _ {top : ℕ} {bs cs : List ℕ} (a : Agree top bs cs) where
  field_same : (at low high refusal : ℕ) → at + 3 ≤ top → field_at bs at low high refusal ≡ field_at cs at low high refusal
  unfolding field_at
  field_same at low high refusal h = ap (within low high refusal) (read_same a at h)

  -- going on after a field
  on_same : {A : Type 0} (Q : A → Type 0) (at low high refusal : ℕ) → at + 3 ≤ top → (stop : ℕ → A) (go other : ℕ → ℕ → A) → ((r : ℕ) → Q (stop r))
      → ((v p : ℕ) → v ≤ high → p ≤ at + 3 → (go v p ≡ other v p) × Q (go v p))
      → (on_field (field_at bs at low high refusal) stop go ≡ on_field (field_at cs at low high refusal) stop other)
      × Q (on_field (field_at bs at low high refusal) stop go)
  on_same {A} Q at low high refusal h stop go other st f =
      let (e, q) = by (field_at bs at low high refusal) refl in
      (e ∙ ap (λ (x : Field). on_field x stop other) (field_same at low high refusal h), q)
    where
      by : (x : Field) → field_at bs at low high refusal ≡ x → (on_field x stop go ≡ on_field x stop other) × Q (on_field x stop go)
      by (Value v p) e = f v p (field_value bs at low high refusal v p e).1 (field_near bs at low high refusal v p e)
      by (Refused r) e = (refl, st r)

  -- ---- one field of a location or an edge

  unless_same : (s t u : State) (b : ℕ) → s.at ≤ b → (t ≡ u) × (t.at ≤ b) → (unless_stopped s t ≡ unless_stopped s u) × ((unless_stopped s t).at ≤ b)
  unless_same s t u b h (e, k) = (ap (unless_stopped s) e, cond_ind (λ (x : State). x.at ≤ b) (eqb s.refusal 0) (λ _. k) (λ _. h))

  kind_same : (l : ℕ) (s : State) (b : ℕ) → s.at ≤ b → b + 3 ≤ top → (kind_at bs l s ≡ kind_at cs l s) × ((kind_at bs l s).at ≤ b + 3)
  unfolding kind_at
  kind_same l s b h k =
      unless_same s _ _ (b + 3) (omega arith)
      (on_same (λ (t : State). t.at ≤ b + 3) s.at 0 1 4 (omega arith) (stopped s) _ _ (λ r. omega arith) (λ v p _ c. (refl, omega arith)))

  invariant_same : (m l x : ℕ) (s : State) (b : ℕ) → s.at ≤ b → b + 3 ≤ top
      → (invariant_at bs m l x s ≡ invariant_at cs m l x s) × ((invariant_at bs m l x s).at ≤ b + 3)
  unfolding invariant_at
  invariant_same m l x s b h k =
      unless_same s _ _ (b + 3) (omega arith)
      (on_same (λ (t : State). t.at ≤ b + 3) s.at 0 (m + 1) 4 (omega arith) (stopped s) _ _ (λ r. omega arith) (λ v p _ c. (refl, omega arith)))

  ends_same : (n l e : ℕ) (s : State) (b : ℕ) → s.at ≤ b → b + 9 ≤ top → (ends_at bs n l e s ≡ ends_at cs n l e s) × ((ends_at bs n l e s).at ≤ b + 9)
  unfolding ends_at
  ends_same n l e s b h k =
      unless_same s _ _ (b + 9) (omega arith)
      (on_same (λ (t : State). t.at ≤ b + 9) s.at 0 (l - 1) 5 (omega arith) (stopped s) _ _ (λ r. omega arith) (λ f p _ c.
      on_same (λ (t : State). t.at ≤ b + 9) p 0 (l - 1) 5 (omega arith) (stopped s) _ _ (λ r. omega arith) (λ t q _ d.
      on_same (λ (t : State). t.at ≤ b + 9) q 0 (2 ^ n - 1) 5 (omega arith) (stopped s) _ _ (λ r. omega arith) (λ w o _ u. (refl, omega arith)))))

  guard_same : (m e x : ℕ) (s : State) (b : ℕ) → s.at ≤ b → b + 6 ≤ top → (guard_at bs m e x s ≡ guard_at cs m e x s) × ((guard_at bs m e x s).at ≤ b + 6)
  unfolding guard_at
  guard_same m e x s b h k =
      unless_same s _ _ (b + 6) (omega arith)
      (on_same (λ (t : State). t.at ≤ b + 6) s.at 0 m 5 (omega arith) (stopped s) _ _ (λ r. omega arith) (λ v p _ c.
      on_same (λ (t : State). t.at ≤ b + 6) p v m 5 (omega arith) (stopped s) _ _ (λ r. omega arith) (λ w q _ d. (refl, omega arith))))

  -- ---- a location and an edge

  module _ (n m : ℕ) (few : n ≤ max_clocks) where
    location_same : (l : ℕ) (s : State) (b : ℕ) → s.at ≤ b → b + location_bytes ≤ top
        → (parse_location bs n m l s ≡ parse_location cs n m l s) × ((parse_location bs n m l s).at ≤ b + location_bytes)
    location_same l s b h k =
        let (e, c) = kind_same l s b h (omega arith) in
        let (d, u) =
        each_same (λ (x : ℕ) (t : State). t.at ≤ b + 3 + 3 * x) (invariant_at bs m l) (invariant_at cs m l) n (kind_at bs l s) (omega arith)
        (λ x t i g. let (p, q) = invariant_same m l x t (b + 3 + 3 * x) g (omega arith) in (p, omega arith)) in
        (d ∙ ap (each n (invariant_at cs m l)) e, omega arith)

    edge_same : (l e : ℕ) (s : State) (b : ℕ) → s.at ≤ b → b + edge_bytes ≤ top → (parse_edge bs n m l e s ≡ parse_edge cs n m l e s) × ((parse_edge bs n m l e s).at ≤ b + edge_bytes)
    edge_same l e s b h k =
        let (i, c) = ends_same n l e s b h (omega arith) in
        let (d, u) =
        each_same (λ (x : ℕ) (t : State). t.at ≤ b + 9 + 6 * x) (guard_at bs m e) (guard_at cs m e) n (ends_at bs n l e s) (omega arith)
        (λ x t j g. let (p, q) = guard_same m e x t (b + 9 + 6 * x) g (omega arith) in (p, omega arith)) in
        (d ∙ ap (each n (guard_at cs m e)) i, omega arith)

    finish_same : (mark : ℕ) (s : State) → s.at < top → finish bs mark s ≡ finish cs mark s
    finish_same mark s h = rw (a.ends s.at h) refl

    -- ---- the whole

    module _ (room : max_model_bytes < top) where
      body_same : (p mark l e s : ℕ) → p ≤ header_bytes → l ≤ max_locations → e ≤ max_edges → parse_body bs p mark n m l e s ≡ parse_body cs p mark n m l e s
      unfolding parse_body
      body_same p mark l e s hp hl he =
          let (i, c) =
          each_same (λ (x : ℕ) (t : State). t.at ≤ header_bytes + location_bytes * x) (parse_location bs n m) (parse_location cs n m) l (going p (blank n m l e s)) (omega arith)
          (λ x t j g. let (u, q) = location_same x t (header_bytes + location_bytes * x) g (omega arith) in (u, omega arith)) in
          let (d, u) =
          each_same (λ (x : ℕ) (t : State). t.at ≤ header_bytes + max_locations * location_bytes + edge_bytes * x) (parse_edge bs n m l) (parse_edge cs n m l) e
          (each l (parse_location bs n m) (going p (blank n m l e s))) (omega arith)
          (λ x t j g. let (w, q) = edge_same l x t (header_bytes + max_locations * location_bytes + edge_bytes * x) g (omega arith) in (w, omega arith)) in
          finish_same mark (each e (parse_edge bs n m l) (each l (parse_location bs n m) (going p (blank n m l e s)))) (omega arith) ∙ ap (finish cs mark) (d ∙ ap (each e (parse_edge cs n m l)) i)

      counts_same : (p mark : ℕ) → p ≤ 9 → parse_counts bs p mark n m ≡ parse_counts cs p mark n m
      unfolding parse_counts
      counts_same p mark h =
          (on_same (λ _. Unit {0}) p 1 max_locations 3 (omega arith) refused _ _ (λ _. tt) (λ l q hl hq. (
            (on_same (λ _. Unit {0}) q 0 max_edges 3 (omega arith) refused _ _ (λ _. tt) (λ e o he ho. (
              (on_same (λ _. Unit {0}) o 0 (l - 1) 3 (omega arith) refused _ _ (λ _. tt) (λ s t hs ht. (body_same t mark l e s (omega arith) hl he, tt))).0,
              tt,
            ))).0,
            tt,
          ))).0

  parse_same : max_model_bytes < top → parse_model bs ≡ parse_model cs
  unfolding parse_model
  parse_same room =
      (on_same (λ _. Unit {0}) 0 1 newest_mark 3 (omega arith) refused _ _ (λ _. tt) (λ mark p _ hp. (
        (on_same (λ _. Unit {0}) p 1 max_clocks 3 (omega arith) refused _ _ (λ _. tt) (λ n q hn hq. (
          (on_same (λ _. Unit {0}) q 1 max_ceiling 3 (omega arith) refused _ _ (λ _. tt) (λ m o hm ho. (counts_same n m hn room o mark (omega arith), tt))).0,
          tt,
        ))).0,
        tt,
      ))).0

-- bytes and their first n
agree_take : (n : ℕ) (bs : List ℕ) → Agree n (take n bs) bs
agree_take n bs = by (dec_le (length bs) n)
  where
    by : Dec (length bs ≤ n) → Agree n (take n bs) bs
    by (yes h) = rw (take_all n bs h) record { ends = λ i b. refl; bytes = λ i b. refl }
    by (no h) =
        let long : n ≤ length bs = omega arith in
        record {
          ends = λ i b. rw (length-take-le n bs long, lt-ltb i n b) (sym (lt-ltb i (length bs) (omega arith)));
          bytes = λ i b. get_or-take n bs i 0 b;
        }

-- Bytes that are cut past the longest model are refused alike, by 1 to 7 or not, and spell the same model.
pub read_cut : (n : ℕ) (bs : List ℕ) → max_model_bytes < n → read_model (take n bs) ≡ read_model bs
unfolding read_model
read_cut n bs h = ap judged (parse_same (agree_take n bs) h)
