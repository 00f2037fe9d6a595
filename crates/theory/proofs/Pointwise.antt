-- Lists compared place by place: two comparisons chained.
use mathlib.Core.List.{List}
use Prim.Native.Nat.{ℕ}
use Rattle.theory.specs.Pointwise.{Each, none, more}

pub each_zip : {P Q R : ℕ → ℕ → Type 0} {v w cs : List ℕ}
    → ((x y c : ℕ) → P x y → Q x c → R y c) → Each P v w → Each Q v cs → Each R w cs
each_zip f none none = none
each_zip f (more p ps) (more q qs) = more (f _ _ _ p q) (each_zip f ps qs)

pub each_chain : {A : Type 0} {P R : A → ℕ → Type 0} {Q : ℕ → ℕ → Type 0} {v : List A} {cs ds : List ℕ}
    → ((x : A) (c d : ℕ) → P x c → Q c d → R x d) → Each P v cs → Each Q cs ds → Each R v ds
each_chain f none none = none
each_chain f (more p ps) (more q qs) = more (f _ _ _ p q) (each_chain f ps qs)
