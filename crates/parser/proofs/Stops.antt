-- Once a reading is refused it stays so, whatever steps follow.
use Prim.Native.Nat.{ℕ, suc, zero, ◌+◌, ◌≤◌, ◌<◌}
use native.Mathlib.Omega.{arith}
use mathlib.Core.Path.{◌≡◌, refl, sym, ap, ◌∙◌}
use mathlib.Core.List.{List}
use mathlib.Core.Bool.{Bool, true, false}
use lib.Dec.{eqb}
use borrow.Author.Tests.{ne_eqb, eqb-true, eqb-false}
use Rattle.limits.specs.declared.refusal.Refusal.{Refusal}
use Rattle.limits.specs.declared.refusal.Refusal.TheVariants.{EndsTooSoon, ThirdTopBit, Header, Location, Edge, BytesRemain, UnresetWalk, ScratchShort, OutputShort, NoEvidence, SheetNumber, SheetRule, TrailStep, TrailEnd, Padded, Unreached, NotJoint}
use Rattle.limits.specs.Refusal.{code_of}
use Rattle.model.specs.Each.{each}
use Rattle.model.proofs.Each.{each_ind}
use Rattle.model.specs.declared.Model.{Model}
use Rattle.parser.specs.Parse.{State, Refused, field_at, going, kind_at, invariant_at, ends_at, guard_at, parse_location, parse_edge, refused, finish}

-- a refusal has a number
pub code_some : (r : Refusal) → 1 ≤ code_of r
code_some EndsTooSoon = omega arith
code_some ThirdTopBit = omega arith
code_some Header = omega arith
code_some Location = omega arith
code_some Edge = omega arith
code_some BytesRemain = omega arith
code_some UnresetWalk = omega arith
code_some ScratchShort = omega arith
code_some OutputShort = omega arith
code_some NoEvidence = omega arith
code_some SheetNumber = omega arith
code_some SheetRule = omega arith
code_some TrailStep = omega arith
code_some TrailEnd = omega arith
code_some Padded = omega arith
code_some Unreached = omega arith
code_some NotJoint = omega arith

pub record Stops (f : State → State) : Type 0 where
  pub same : (s : State) → 1 ≤ s.refusal → f s ≡ s

pub stays : {f : State → State} → Stops f → (s : State) (r : Refusal) → s.refusal ≡ code_of r → (f s).refusal ≡ code_of r
stays h s r e = ap (λ (t : State). t.refusal) (h.same s (omega (arith, code_some r))) ∙ e

module _ {f : ℕ → State → State} (h : (i : ℕ) → Stops (f i)) where
  pub each_stops : (n : ℕ) → Stops (each n f)
  each_stops n = record { same = λ s p. each_ind (λ (t : State). t ≡ s) n f (λ i t e. ap (f i) e ∙ (h i).same s p) s refl }

  -- refused in one round, refused in the end
  refused_so : (n i : ℕ) (s : State) (r : Refusal) → i < n → (f i (each i f s)).refusal ≡ code_of r → (each n f s).refusal ≡ code_of r
  unfolding each
  refused_so zero i s r p e = absurd (omega arith)
  refused_so (suc n) i s r p e = go (eqb i n) refl (λ l. refused_so n i s r l e)
    where
      go : (t : Bool) → eqb i n ≡ t → (i < n → (each n f s).refusal ≡ code_of r) → (f n (each n f s)).refusal ≡ code_of r
      go true q ih = let k : n ≡ i = sym (eqb-true i n q) in rw k e
      go false q ih = let k = eqb-false i n q in stays (h n) (each n f s) r (ih (omega arith))

  pub refused_in : (n i : ℕ) (s t : State) (r : Refusal) → i < n → each i f s ≡ t → (f i t).refusal ≡ code_of r → (each n f s).refusal ≡ code_of r
  refused_in n i s t r h e d = refused_so n i s r h (ap (λ (u : State). (f i u).refusal) e ∙ d)

module _ (bs : List ℕ) where
  pub kind_stops : (l : ℕ) → Stops (kind_at bs l)
  unfolding kind_at
  kind_stops l = record { same = λ s p. simp (ne_eqb s.refusal 0 (λ e. omega arith)) }

  pub invariant_stops : (m l x : ℕ) → Stops (invariant_at bs m l x)
  unfolding invariant_at
  invariant_stops m l x = record { same = λ s p. simp (ne_eqb s.refusal 0 (λ e. omega arith)) }

  pub ends_stops : (n l e : ℕ) → Stops (ends_at bs n l e)
  unfolding ends_at
  ends_stops n l e = record { same = λ s p. simp (ne_eqb s.refusal 0 (λ e. omega arith)) }

  pub guard_stops : (m e x : ℕ) → Stops (guard_at bs m e x)
  unfolding guard_at
  guard_stops m e x = record { same = λ s p. simp (ne_eqb s.refusal 0 (λ e. omega arith)) }

  pub location_stops : (n m l : ℕ) → Stops (parse_location bs n m l)
  location_stops n m l =
      record { same = λ s p. ap (each n (invariant_at bs m l)) ((kind_stops l).same s p) ∙ (each_stops (invariant_stops m l) n).same s p }

  pub edge_stops : (n m l e : ℕ) → Stops (parse_edge bs n m l e)
  edge_stops n m l e =
      record { same = λ s p. ap (each n (guard_at bs m e)) ((ends_stops n l e).same s p) ∙ (each_stops (guard_stops m e) n).same s p }

  -- ---- as the code goes: where a part is refused, so is the whole

  pub kind_refused : (n m l p : ℕ) (w : Model) (r : Refusal) → Refused (code_of r) ≡ field_at bs p 0 1 4
      → (parse_location bs n m l (going p w)).refusal ≡ code_of r
  unfolding kind_at
  kind_refused n m l p w r e =
      let d : (kind_at bs l (going p w)).refusal ≡ code_of r = simp (sym e) in
      stays (each_stops (invariant_stops m l) n) (kind_at bs l (going p w)) r d

  pub edge_refused : (n m l e : ℕ) (s : State) (r : Refusal) → (ends_at bs n l e s).refusal ≡ code_of r → (parse_edge bs n m l e s).refusal ≡ code_of r
  edge_refused n m l e s r = stays (each_stops (guard_stops m e) n) (ends_at bs n l e s) r

  pub finish_refused : (mark : ℕ) (s : State) (r : Refusal) → s.refusal ≡ code_of r → refused (code_of r) ≡ finish bs mark s
  finish_refused mark s r e = simp (ne_eqb s.refusal 0 (λ z. omega (arith, code_some r))) (ap refused (sym e))

  -- refused in one round: the bytes and the header of that round are those of the first

  pub fields_refused : (n m l k x p : ℕ) (cs : List ℕ) (s : State) (w : Model) (r : Refusal) → x < n → each x (invariant_at bs m l) s ≡ going p w
      → cs ≡ bs → k ≡ m → Refused (code_of r) ≡ field_at cs p 0 (k + 1) 4 → (each n (invariant_at bs m l) s).refusal ≡ code_of r
  unfolding invariant_at
  fields_refused n m l k x p cs s w r h q b o e =
      let f = rw (b, o) at e in
      let d : (invariant_at bs m l x (going p w)).refusal ≡ code_of r = simp (sym f) in
      refused_in (invariant_stops m l) n x s (going p w) r h q d

  pub locations_refused : (k n m n' m' l : ℕ) (cs : List ℕ) (s t : State) (r : Refusal) → l < k → each l (parse_location bs n m) s ≡ t
      → cs ≡ bs → n' ≡ n → m' ≡ m → (parse_location cs n' m' l t).refusal ≡ code_of r → (each k (parse_location bs n m) s).refusal ≡ code_of r
  locations_refused k n m n' m' l cs s t r h q b p o d = refused_in (location_stops n m) k l s t r h q (rw (b, p, o) at d)

  pub guards_refused : (n m e k x : ℕ) (cs : List ℕ) (s t : State) (r : Refusal) → x < n → each x (guard_at bs m e) s ≡ t
      → cs ≡ bs → k ≡ m → (guard_at cs k e x t).refusal ≡ code_of r → (each n (guard_at bs m e) s).refusal ≡ code_of r
  guards_refused n m e k x cs s t r h q b o d = refused_in (guard_stops m e) n x s t r h q (rw (b, o) at d)

  pub edges_refused : (k n m l n' m' l' e : ℕ) (cs : List ℕ) (s t : State) (r : Refusal) → e < k → each e (parse_edge bs n m l) s ≡ t
      → cs ≡ bs → n' ≡ n → m' ≡ m → l' ≡ l → (parse_edge cs n' m' l' e t).refusal ≡ code_of r → (each k (parse_edge bs n m l) s).refusal ≡ code_of r
  edges_refused k n m l n' m' l' e cs s t r h q b p o i d = refused_in (edge_stops n m l) k e s t r h q (rw (b, p, o, i) at d)
