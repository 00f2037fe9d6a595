-- What a blank stay field means: the paper's form and the computed one agree.
use Prim.Native.Nat.{ℕ, ◌+◌, ◌<◌}
use native.Mathlib.Omega.{arith}
use mathlib.Core.Path.{◌≡◌, refl, ap, subst, ◌∙◌}
use mathlib.Core.Bool.{Bool, true, false, cond}
use mathlib.Core.Logic.{◌↔◌}
use lib.Dec.{eqb}
use borrow.Author.Tests.{eqb-true, eqb-false, eq-eqb, ne_eqb}
use Rattle.limits.specs.Limits.{KnownMark}
use Rattle.stay_limits.specs.Stay.{resolve, last_exit}
use Rattle.stay_limits.proofs.Exits.{LastExit, exit_last, exit_same}
use Rattle.model.specs.declared.Model.{Model}
use Rattle.parser.specs.Parse.{Reading}
use Rattle.model.specs.Model.{source_of, high_at}
use Rattle.stay_fields.specs.Resolve.{default_at}
use Rattle.canonical.specs.Blank.{Blank, ceiling, none, greatest}

-- the ceiling and the edges alone decide
pub default_same : (mark : ℕ) (m k : Model) (l x : ℕ) → m.ceiling ≡ k.ceiling → m.edges ≡ k.edges
    → ((e : ℕ) → e < m.edges → source_of m e ≡ source_of k e) → ((e : ℕ) → e < m.edges → high_at m e x ≡ high_at k e x)
    → default_at mark m l x ≡ default_at mark k l x
default_same mark m k l x c n source high =
    let e : last_exit (source_of m) (λ e. high_at m e x) l m.edges ≡ last_exit (source_of k) (λ e. high_at k e x) l k.edges
    = exit_same _ _ _ _ l m.edges source high ∙ ap (last_exit (source_of k) (λ e. high_at k e x) l) n in
    rw (c, e) refl

-- a high end is found again from one more than it
resolve_high : (M h : ℕ) → resolve M (h + 1) ≡ h
resolve_high M h = simp (ne_eqb (h + 1) 0 (λ e. omega arith)) (omega arith)

module _ (r : Reading) (l x : ℕ) where
  abbrev m : Model
  m = r.model

  abbrev last : ℕ
  last = last_exit (source_of m) (λ e. high_at m e x) l m.edges

  abbrev LastOf : ℕ → Type 0
  LastOf = LastExit (source_of m) (λ e. high_at m e x) l m.edges

  -- in mark 2 the edges decide
  by_edges : r.mark ≡ 2 → default_at r.mark m l x ≡ resolve m.ceiling last
  by_edges e = simp (ne_eqb r.mark 1 (λ z. omega arith))

  blank_is : (b : ℕ) → Blank r l x b → default_at r.mark m l x ≡ b
  blank_is _ (ceiling e) = simp (eq-eqb _ _ e)
  blank_is _ (none e f) = rw (by_edges e) (by last (exit_last _ _ l m.edges))
    where
      by : (g : ℕ) → LastOf g → resolve m.ceiling g ≡ m.ceiling
      by _ (LastExit.none h) = refl
      by _ (LastExit.greatest d p s h) = absurd (f d (p, s))
  blank_is _ (greatest e d (p, s) f) = rw (by_edges e) (by last (exit_last _ _ l m.edges))
    where
      by : (g : ℕ) → LastOf g → resolve m.ceiling g ≡ high_at m d x
      by _ (LastExit.none h) = absurd (h d p s)
      by _ (LastExit.greatest c q t h) = rw (resolve_high m.ceiling (high_at m c x)) (omega (arith, h d p s, f c (q, t)))

  default_blank : KnownMark r.mark → Blank r l x (default_at r.mark m l x)
  default_blank k = mark (eqb r.mark 1) refl
    where
      by : r.mark ≡ 2 → (g : ℕ) → LastOf g → Blank r l x (resolve m.ceiling g)
      by e _ (LastExit.none h) = none e (λ d (p, s). h d p s)
      by e _ (LastExit.greatest d p s h) = rw (resolve_high m.ceiling (high_at m d x)) (greatest e d (p, s) (λ c (q, t). h c q t))

      mark : (t : Bool) → eqb r.mark 1 ≡ t → Blank r l x (cond t m.ceiling (resolve m.ceiling last))
      mark true q = ceiling (eqb-true _ _ q)
      mark false q = by (omega (arith, eqb-false r.mark 1 q)) last (exit_last _ _ l m.edges)

  pub blank_law : KnownMark r.mark → (b : ℕ) → Blank r l x b ↔ (default_at r.mark m l x ≡ b)
  blank_law k b = (blank_is b, λ e. subst (Blank r l x) e (default_blank k))
