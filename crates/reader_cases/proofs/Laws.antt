-- A reader that gives a number moves on, and not past the end.
use Prim.Native.Nat.{ℕ, ◌<◌, ◌≤◌}
use mathlib.Core.Path.{◌≡◌, refl, sym, ap, subst, ◌∙◌}
use mathlib.Core.Bool.{false, true≢false}
use lib.ListN.{length}
use Rattle.number.specs.Shortest.{Spelled, Shortest, Padded, Refused, number_in}
use Rattle.reader.specs.declared.Reader.{Reader}
use Rattle.reader.specs.Reader.{next_number, advanced}
use Rattle.reader.proofs.Laws.{value_further}
use Rattle.reader_cases.specs.Replied.{Reply, replied, is_refused}

pub replied_further : (r : Reader) (x : Reply) → x ≡ replied r → is_refused x.number ≡ false → (r.at < x.at) × (x.at ≤ length r.bytes.now)
unfolding replied
replied_further r x e d =
    subst (λ (m : ℕ). (r.at < m) × (m ≤ length r.bytes.now)) (ap (λ (x : Reply). x.at) (sym e))
    (by (next_number r) refl (ap (λ (x : Reply). is_refused x.number) (sym e) ∙ d))
  where
    by : (t : Spelled) → next_number r ≡ t → is_refused t ≡ false → (r.at < (advanced r).at) × ((advanced r).at ≤ length r.bytes.now)
    by (Shortest v to) q _ = value_further r v to (ap number_in q)
    by (Padded v to) q _ = value_further r v to (ap number_in q)
    by (Refused x) q z = absurd (true≢false z)
