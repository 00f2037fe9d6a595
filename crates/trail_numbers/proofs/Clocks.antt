-- One, two or three numbers, by the number of clocks.
use Prim.Native.Nat.{ℕ, ◌≤◌, ◌<◌}
use native.Mathlib.Omega.{arith}
use mathlib.Core.Path.{◌≡◌}
use mathlib.Core.List.{List}
use Rattle.evidence_number.specs.Evidence.{read_evidence}
use Rattle.region.specs.Limits.{Clocks}
use Rattle.region.proofs.Views.{three as clock_cases}
use Rattle.trail_numbers.specs.Numbers.{numbers_at}
use Rattle.trail_numbers.specs.Three.{three_of}
use Rattle.number.specs.Number as number
use Rattle.trail_numbers.specs.Three as three

module _ (bs : List ℕ) (at n : ℕ) (k : Clocks n) where
  pub three_none : (r : ℕ) → read_evidence bs at ≡ number.Refused r → three.Refused r ≡ three_of (numbers_at bs n at)
  unfolding numbers_at
  three_none r e = clock_cases (λ n. three.Refused r ≡ three_of (numbers_at bs n at)) (simp e) (simp e) (simp e) n k

  module _ (a p : ℕ) (e : read_evidence bs at ≡ number.Value a p) where
    pub three_one : n < 2 → three.Numbers a 0 0 p ≡ three_of (numbers_at bs n at)
    unfolding numbers_at
    three_one =
        clock_cases (λ n. n < 2 → three.Numbers a 0 0 p ≡ three_of (numbers_at bs n at))
        (λ h. simp e) (λ h. absurd (omega arith)) (λ h. absurd (omega arith)) n k

    pub three_no_second : 2 ≤ n → (r : ℕ) → read_evidence bs p ≡ number.Refused r → three.Refused r ≡ three_of (numbers_at bs n at)
    unfolding numbers_at
    three_no_second h r f =
        clock_cases (λ n. 2 ≤ n → three.Refused r ≡ three_of (numbers_at bs n at))
        (λ h. absurd (omega arith)) (λ h. simp (e, f)) (λ h. simp (e, f)) n k h

    module _ (b q : ℕ) (f : read_evidence bs p ≡ number.Value b q) where
      pub three_two : 2 ≤ n → n < 3 → three.Numbers a b 0 q ≡ three_of (numbers_at bs n at)
      unfolding numbers_at
      three_two =
          clock_cases (λ n. 2 ≤ n → n < 3 → three.Numbers a b 0 q ≡ three_of (numbers_at bs n at))
          (λ h i. absurd (omega arith)) (λ h i. simp (e, f)) (λ h i. absurd (omega arith)) n k

      pub three_no_third : 3 ≤ n → (r : ℕ) → read_evidence bs q ≡ number.Refused r → three.Refused r ≡ three_of (numbers_at bs n at)
      unfolding numbers_at
      three_no_third h r g =
          clock_cases (λ n. 3 ≤ n → three.Refused r ≡ three_of (numbers_at bs n at))
          (λ h. absurd (omega arith)) (λ h. absurd (omega arith)) (λ h. simp (e, f, g)) n k h

      pub three_all : 3 ≤ n → (c end : ℕ) → read_evidence bs q ≡ number.Value c end → three.Numbers a b c end ≡ three_of (numbers_at bs n at)
      unfolding numbers_at
      three_all h c end g =
          clock_cases (λ n. 3 ≤ n → three.Numbers a b c end ≡ three_of (numbers_at bs n at))
          (λ h. absurd (omega arith)) (λ h. absurd (omega arith)) (λ h. simp (e, f, g)) n k h

-- the ways through a reading of three
pub ruleset three_read = (three_none, three_one, three_no_second, three_two, three_no_third, three_all)
