-- Words by cases of an answer.
use Prim.Native.Nat.{ℕ, ◌+◌, ◌*◌, ◌%◌, ◌^◌, ◌≤◌, ◌<◌}
use native.Mathlib.Omega.{arith}
use mathlib.Core.Path.{◌≡◌, refl}
use mathlib.Core.List.{List, [], ◌∷◌}
use lib.ListN.{length, set, drop}
use borrow.Author.Tests.{lt-ltb, le-ltb, le-leb, lt-leb}
use Rattle.c_words.specs.Words.{judge_word, count_word, check_word, write_word, number_word, margin_word, room_word, harm_short, harm_word, harm_out, max_field, Fields}
use Rattle.number.specs.Shortest as spelled

pub verdict_fields : (b s k : ℕ) → b ≤ 1 → Fields (record { number = 0; values = b ∷ s ∷ k ∷ [] }) → (b ≤ 1) × (s ≤ max_field) × (k ≤ max_field)
verdict_fields b s k h f = (h, f.fit 1, f.fit 2)

pub verdict_word_is : (w b s k : ℕ) → w ≡ 2 ^ 8 * b + 2 ^ 16 * s + 2 ^ 40 * k → w ≡ judge_word (record { number = 0; values = b ∷ s ∷ k ∷ [] })
unfolding judge_word
verdict_word_is w b s k e = omega (arith, e)

pub refused_word_is : (r : ℕ) → r ≡ judge_word (record { number = r; values = [] })
unfolding judge_word
refused_word_is r = omega arith

pub count_word_is : (s : ℕ) → s * 65536 ≡ count_word (record { number = 0; values = s ∷ [] })
unfolding count_word
count_word_is s = omega arith

pub count_refused_is : (r : ℕ) → r ≡ count_word (record { number = r; values = [] })
unfolding count_word
count_refused_is r = omega arith

pub kind_word_is : (w k : ℕ) → w ≡ k * 256 → w ≡ check_word (record { number = 0; values = k ∷ [] })
unfolding check_word
kind_word_is w k e = omega (arith, e)

pub check_refused_is : (r : ℕ) → r ≡ check_word (record { number = r; values = [] })
unfolding check_word
check_refused_is r = omega arith

pub written_word_is : (w b n : ℕ) → w ≡ b * 256 + n * 65536 → w ≡ write_word (record { number = 0; values = b ∷ n ∷ [] })
unfolding write_word
written_word_is w b n e = omega (arith, e)

pub write_refused_is : (r : ℕ) → r ≡ write_word (record { number = r; values = [] })
unfolding write_word
write_refused_is r = omega arith

-- ---- numbers

pub shortest_word_is : (w v to : ℕ) → w ≡ 2 ^ 8 * v + 2 ^ 31 * 0 + 2 ^ 32 * (to % 2 ^ 32) → w ≡ number_word (spelled.Shortest v to)
unfolding number_word
shortest_word_is w v to e = omega (arith, e)

pub padded_word_is : (w v to : ℕ) → w ≡ 2 ^ 8 * v + 2 ^ 31 * 1 + 2 ^ 32 * (to % 2 ^ 32) → w ≡ number_word (spelled.Padded v to)
unfolding number_word
padded_word_is w v to e = omega (arith, e)

pub number_refused_is : (r : ℕ) → r ≡ number_word (spelled.Refused r)
unfolding number_word
number_refused_is r = refl

-- ---- the margin, and the room

pub bound_word_is : (w s a : ℕ) → w ≡ s * 65536 + a * 1099511627776 → w ≡ margin_word (record { number = 0; values = s ∷ a ∷ [] })
unfolding margin_word
bound_word_is w s a e = omega (arith, e)

pub margin_refused_is : (r : ℕ) → r ≡ margin_word (record { number = r; values = [] })
unfolding margin_word
margin_refused_is r = omega arith

pub room_word_is : (w s k sheet n : ℕ) → w ≡ s * 65536 + sheet * 1099511627776 → w ≡ room_word (record { number = 0; values = s ∷ k ∷ sheet ∷ n ∷ [] })
unfolding room_word
room_word_is w s k sheet n e = omega (arith, e)

pub room_refused_is : (r : ℕ) → r ≡ room_word (record { number = r; values = [] })
unfolding room_word
room_refused_is r = omega arith

-- ---- harm

module _ (s b r : ℕ) (out : List ℕ) where
  -- the word where there is no harm, and where there is, by the room for it
  pub harm_safe_word : (w room : ℕ) → w ≡ 2 ^ 8 * 0 + 2 ^ 16 * s + 2 ^ 40 * 0 → w ≡ harm_word (record { number = 0; values = 0 ∷ s ∷ 0 ∷ 0 ∷ [] }) room
  unfolding harm_word harm_short
  harm_safe_word w room e = omega (arith, e)

  pub harm_safe_out : out ≡ harm_out (record { number = 0; values = 0 ∷ s ∷ 0 ∷ 0 ∷ [] }) out
  unfolding harm_out
  harm_safe_out = refl

  pub harm_short_word : (room : ℕ) → room < 2 → 9 ≡ harm_word (record { number = 0; values = 1 ∷ s ∷ b ∷ r ∷ [] }) room
  unfolding harm_word harm_short
  harm_short_word room h = simp (lt-ltb room 2 h) refl

  pub harm_short_out : length out < 2 → out ≡ harm_out (record { number = 0; values = 1 ∷ s ∷ b ∷ r ∷ [] }) out
  unfolding harm_out
  harm_short_out h = simp (lt-leb 2 (length out) h) refl

  pub harm_told_word : (w room : ℕ) → 2 ≤ room → w ≡ 2 ^ 8 * 1 + 2 ^ 16 * s + 2 ^ 40 * 0 → w ≡ harm_word (record { number = 0; values = 1 ∷ s ∷ b ∷ r ∷ [] }) room
  unfolding harm_word harm_short
  harm_told_word w room h e = simp (le-ltb room 2 h) (omega (arith, e))

  pub harm_told_out : 2 ≤ length out → set (set out 0 b) 1 r ≡ harm_out (record { number = 0; values = 1 ∷ s ∷ b ∷ r ∷ [] }) out
  unfolding harm_out
  harm_told_out h = simp (le-leb 2 (length out) h) (two out h)
    where
      two : (l : List ℕ) → 2 ≤ length l → set (set l 0 b) 1 r ≡ b ∷ r ∷ drop 2 l
      two [] k = absurd (omega arith)
      two (x ∷ []) k = absurd (omega arith)
      two (x ∷ y ∷ l) k = refl

pub harm_refused_word : (r room : ℕ) → r ≡ harm_word (record { number = r; values = [] }) room
unfolding harm_word harm_short
harm_refused_word r room = omega arith

pub harm_refused_out : (r : ℕ) (out : List ℕ) → out ≡ harm_out (record { number = r; values = [] }) out
unfolding harm_out
harm_refused_out r out = refl
