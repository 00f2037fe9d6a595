-- Bytes that parse give a lawful model; what is refused is refused by 1 to 6 and blank.
use Prim.Native.Nat.{ℕ, ◌+◌, ◌*◌, ◌-◌, ◌^◌, ◌≤◌}
use native.Mathlib.Omega.{arith}
use mathlib.Core.Path.{◌≡◌, refl, sym, ap, subst, ◌∙◌}
use mathlib.Core.List.{List}
use lib.ListN.{length, get_or}
use lib.Dec.{ltb, eqb}
use Rattle.number.proofs.Laws.{cond_ind}
use Rattle.parser.specs.Parse.{Reading}
use Rattle.parser.specs.Parse.{State}
use Rattle.limits.specs.Limits.{max_clocks, max_ceiling, max_locations, max_edges, newest_mark}
use Rattle.model.specs.Each.{each}
use Rattle.model.specs.Model.{slot, Lawful}
use Rattle.parser.specs.Parse.{field_at, on_field, unless_stopped, going, stopped, blank, refused, finish, kind_at, invariant_at, ends_at, guard_at, parse_location, parse_edge, parse_body, parse_counts, parse_model}
use Rattle.model.proofs.Each.{each_ind}
use Rattle.parser.proofs.Fields.{field_value, field_refused, on_ind}
use Rattle.limits.proofs.Zeros.{zeros}
use Rattle.parser.proofs.Arrays.{set_most}
use Rattle.parser.proofs.Drafts.{read_draft}
use Rattle.parser.proofs.Finals.{resolved_draft, final_lawful}

-- ---- each step keeps the numbers of the header and the range of the high ends, and refuses by 1 to 6

pub record Ok (n m l e : ℕ) (s : State) : Type 0 where
  pub refusal : s.refusal ≤ 6
  pub clocks : s.model.clocks ≡ n
  pub locations : s.model.locations ≡ l
  pub edges : s.model.edges ≡ e
  pub highs : (i : ℕ) → get_or s.model.upper i 0 ≤ m

module _ (bs : List ℕ) (n m l e : ℕ) where
  abbrev Fine : State → Type 0
  Fine = Ok n m l e

  -- the same header and high ends
  keeps : (s t : State) → t.refusal ≤ 6 → t.model.clocks ≡ s.model.clocks → t.model.locations ≡ s.model.locations
      → t.model.edges ≡ s.model.edges → t.model.upper ≡ s.model.upper → Fine s → Fine t
  keeps s t r c p d u h =
      record { refusal = r; clocks = c ∙ h.clocks; locations = p ∙ h.locations; edges = d ∙ h.edges; highs = rw u h.highs }

  -- a step that stops keeps what holds, and so does one that is not made
  step_ok : (s : State) (at low high refusal : ℕ) (f : ℕ → ℕ → State) → 2 ≤ refusal → refusal ≤ 6 → Fine s
      → ((v p : ℕ) → v ≤ high → Fine (f v p)) → Fine (on_field (field_at bs at low high refusal) (stopped s) f)
  step_ok s at low high refusal f two six h g =
      on_ind Fine (field_at bs at low high refusal) _ _
      (λ r x. keeps s _ (omega (arith, field_refused bs at low high refusal r two x)) refl refl refl refl h)
      (λ v p x. g v p (field_value bs at low high refusal v p x).1)

  unless_ok : (s t : State) → Fine s → Fine t → Fine (unless_stopped s t)
  unless_ok s t a b = cond_ind Fine (eqb s.refusal 0) (λ q. b) (λ q. a)

  kind_ok : (k : ℕ) (s : State) → Fine s → Fine (kind_at bs k s)
  unfolding kind_at
  kind_ok k s h =
      unless_ok s _ h (step_ok s s.at 0 1 4 _ (omega arith) (omega arith) h (λ v p _. keeps s _ (omega arith) refl refl refl refl h))

  invariant_ok : (k x : ℕ) (s : State) → Fine s → Fine (invariant_at bs m k x s)
  unfolding invariant_at
  invariant_ok k x s h =
      unless_ok s _ h (step_ok s s.at 0 (m + 1) 4 _ (omega arith) (omega arith) h (λ v p _. keeps s _ (omega arith) refl refl refl refl h))

  ends_ok : (k : ℕ) (s : State) → Fine s → Fine (ends_at bs n l k s)
  unfolding ends_at
  ends_ok k s h =
      unless_ok s _ h
      (step_ok s s.at 0 (l - 1) 5 _ (omega arith) (omega arith) h (λ f p _.
      step_ok s p 0 (l - 1) 5 _ (omega arith) (omega arith) h (λ t q _.
      step_ok s q 0 (2 ^ n - 1) 5 _ (omega arith) (omega arith) h (λ w o _. keeps s _ (omega arith) refl refl refl refl h))))

  guard_ok : (k x : ℕ) (s : State) → Fine s → Fine (guard_at bs m k x s)
  unfolding guard_at
  guard_ok k x s h =
      unless_ok s _ h
      (step_ok s s.at 0 m 5 _ (omega arith) (omega arith) h (λ v p _.
      step_ok s p v m 5 _ (omega arith) (omega arith) h (λ w q most.
      record {
        refusal = omega arith;
        clocks = h.clocks;
        locations = h.locations;
        edges = h.edges;
        highs = set_most m s.model.upper (slot k x) w most h.highs;
      })))

  pub body_ok : (st p : ℕ) → Fine (each e (parse_edge bs n m l) (each l (parse_location bs n m) (going p (blank n m l e st))))
  body_ok st p =
      each_ind Fine e (parse_edge bs n m l) (λ i s h. each_ind Fine n (guard_at bs m i) (guard_ok i) (ends_at bs n l i s) (ends_ok i s h)) _
      (each_ind Fine l (parse_location bs n m) (λ i s h. each_ind Fine n (invariant_at bs m i) (invariant_ok i) (kind_at bs i s) (kind_ok i s h)) _
      (record { refusal = omega arith; clocks = refl; locations = refl; edges = refl; highs = λ i. omega (arith, zeros (max_clocks * max_edges) i) }))

-- ---- the whole

record Refusals (r : Reading) : Type 0 where
  refusal : r.refusal ≤ 6
  blanked : (r.refusal ≡ 0 → ⊥) → r.model ≡ blank 0 0 0 0 0

refused_ok : (r : ℕ) → r ≤ 6 → Refusals (refused r)
refused_ok r k = record { refusal = k; blanked = λ _. refl }

module _ (bs : List ℕ) where
  finish_ok : (mark n m l e : ℕ) (s : State) → Ok n m l e s → Refusals (finish bs mark s)
  finish_ok mark n m l e s h =
      cond_ind Refusals (eqb s.refusal 0)
      (λ q. cond_ind Refusals (ltb s.at (length bs)) (λ t. refused_ok 6 (omega arith))
      (λ t. record { refusal = omega arith; blanked = λ ne. absurd (ne refl) }))
      (λ q. refused_ok s.refusal h.refusal)

  -- a header number that is refused
  header_ok : (at low high : ℕ) (go : ℕ → ℕ → Reading) → ((v p : ℕ) → Refusals (go v p)) → Refusals (on_field (field_at bs at low high 3) refused go)
  header_ok at low high go f =
      on_ind Refusals (field_at bs at low high 3) refused go
      (λ r x. let w = field_refused bs at low high 3 r (omega arith) x in refused_ok r (omega arith)) (λ v p x. f v p)

  refusals : Refusals (parse_model bs)
  unfolding parse_model parse_counts parse_body
  refusals =
      header_ok 0 1 newest_mark _ (λ mark p.
      header_ok p 1 max_clocks _ (λ n q.
      header_ok q 1 max_ceiling _ (λ m o.
      header_ok o 1 max_locations _ (λ l t.
      header_ok t 0 max_edges _ (λ e u.
      header_ok u 0 (l - 1) _ (λ s w.
      finish_ok mark n m l e _ (body_ok bs n m l e s w)))))))

pub record Parsed (r : Reading) : Type 0 where
  pub refusal : r.refusal ≤ 6
  pub lawful : r.refusal ≡ 0 → Lawful r.model
  pub blanked : (r.refusal ≡ 0 → ⊥) → r.model ≡ blank 0 0 0 0 0

module _ (bs : List ℕ) (e : (parse_model bs).refusal ≡ 0) where
  parsed_lawful : Lawful (parse_model bs).model
  parsed_lawful =
      let d = read_draft bs e in
      subst Lawful (sym (ap (λ (r : Reading). r.model) d.is ∙ resolved_draft d.draft)) (final_lawful d.draft d.range)

pub parsed : (bs : List ℕ) → Parsed (parse_model bs)
parsed bs =
    record {
      refusal = (refusals bs).refusal;
      lawful = parsed_lawful bs;
      blanked = (refusals bs).blanked;
    }
