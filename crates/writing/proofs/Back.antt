-- Lines that were written are read back: where they end, and the three numbers that they hold.
-- Assumes nothing.
use mathlib.Core.Bool.{Bool, true, false, not}
use Rattle.std.specs.Prelude.{Some, Ok}
use mathlib.Core.List.{List, [], ◌∷◌, ◌++◌, append_assoc}
use mathlib.Core.Path.{◌≡◌, refl, sym, ◌∙◌, ap}
use Prim.Native.Nat.{ℕ, ◌+◌, ◌-◌, ◌^◌, ◌≤◌, ◌<◌}
use native.Mathlib.Omega.{arith}
use lib.Dec.{eqb, ltb}
use lib.ListN.{length, get_or, length-append}
use borrow.Author.Tests.{ltb-true, not-true, eq-eqb}
use Rattle.counting.specs.Tests.{◌and◌, ◌or◌, pick}
use Rattle.counting.proofs.Joined.{by_test, and_left, and_right, and_intro, and_fails_left, and_fails_right}
use Rattle.scanning.specs.declared.Class.TheVariants.{Blank, LineEnd}
use Rattle.scanning.specs.declared.Stretch.{Stretch}
use Rattle.scanning.specs.declared.Stretch.TheVariants.{Line, Blanks, Nonblanks}
use Rattle.scanning.specs.declared.Field.TheVariants.{Integer}
use Rattle.scanning.specs.Classes.{between, class_of, stretches_over, is_blank}
use Rattle.scanning.specs.Lines.{stretches_at, stretch_end, line_stop, has_return, line_end, line_next}
use Rattle.scanning.specs.Words.{number_at, ends_at, numbers_at}
use Rattle.scanning.proofs.Scans.{stretch_here, stretch_over, stretch_on, end_without, next_more}
use Rattle.writing.specs.Written.{decimals, number_text, sizes_text}
use Rattle.writing.proofs.Decimals.{decimals-some}
use Rattle.writing.proofs.Held.{Holds, holds-left, holds_right, every, every_at, stretch_whole, digit_class, decimals-every, number-back}

-- the bytes of a line: neither LF nor CR
unfoldable pub plain : ℕ → Bool
plain b = stretches_over Line (class_of b) and not (eqb b 13)

line_goes : (bytes : List ℕ) → every plain bytes ≡ true → every (λ b. stretches_over Line (class_of b)) bytes ≡ true
unfolding every plain
line_goes [] h = refl
line_goes (b ∷ bytes) h =
    and_intro
    (and_left (stretches_over Line (class_of b)) (not (eqb b 13)) (and_left (plain b) (every plain bytes) h))
    (line_goes bytes (and_right (plain b) (every plain bytes) h))

plain_return : (b : ℕ) → plain b ≡ true → eqb b 13 ≡ false
unfolding plain
plain_return b h = not-true (eqb b 13) (and_right (stretches_over Line (class_of b)) (not (eqb b 13)) h)

feed_class : class_of 10 ≡ LineEnd
unfolding class_of between ◌and◌ ◌or◌ pick
feed_class = refl

space_class : class_of 32 ≡ Blank
unfolding class_of between ◌and◌ ◌or◌ pick
space_class = refl

-- where a line ends that the text holds, with its LF
module _
    (text body : List ℕ) (at : ℕ) (held : Holds text at (body ++ (10 ∷ []))) (fine : every plain body ≡ true)
    (room : at + length body < length text) where
  line_feed : get_or text (at + length body) 0 ≡ 10
  line_feed =
      let e : at + length body + 0 ≡ at + length body = omega arith in
      ap (λ k. get_or text k 0) (sym e) ∙ (holds_right body (10 ∷ []) held).at_each 0 (omega arith)

  pub stop-back : line_stop text at ≡ at + length body
  unfolding line_stop stretches_at
  stop-back =
      stretch_whole Line text body at (length text) (holds-left body (10 ∷ []) held) (line_goes body fine) (omega arith)
      ∙ stretch_here Line text (at + length body) (length text) (ap (λ b. stretches_over Line (class_of b)) line_feed ∙ ap (stretches_over Line) feed_class)

  no_return : has_return text at (at + length body) ≡ false
  unfolding has_return
  no_return =
      by_test
      (ltb at (at + length body))
      (λ e. let l = ltb-true at (at + length body) e in
      let q : at + length body - 1 ≡ at + (length body - 1) = omega arith in
      let last = ap (λ k. get_or text k 0) q ∙ (holds-left body (10 ∷ []) held).at_each (length body - 1) (omega arith) in
      let other = plain_return (get_or body (length body - 1) 0) (every_at plain body (length body - 1) fine (omega arith)) in
      and_fails_right
      (ltb (at + length body) (length text))
      (and_fails_right (ltb at (at + length body)) (ap (λ b. eqb b 13) last ∙ other)))
      (λ e. and_fails_right (ltb (at + length body) (length text)) (and_fails_left _ e))

  pub end_back : line_end text at ≡ at + length body
  end_back = sym (end_without text at (at + length body) (sym stop-back) no_return)

  pub next-back : line_next text at ≡ at + length body + 1
  next-back = sym (next_more text at (at + length body) (sym stop-back) room)

-- a byte that stops a stretch, and one that does not
stops_here : (stretch : Stretch) (text : List ℕ) (at stop b : ℕ) → get_or text at 0 ≡ b → stretches_over stretch (class_of b) ≡ false → stretch_end stretch text at stop ≡ at
unfolding stretches_at
stops_here stretch text at stop b e h = stretch_here stretch text at stop (ap (λ x. stretches_over stretch (class_of x)) e ∙ h)

goes_over :
    (stretch : Stretch) (text : List ℕ) (at stop b : ℕ) → at < stop → get_or text at 0 ≡ b → stretches_over stretch (class_of b) ≡ true → stretch_end stretch text at stop ≡ stretch_end stretch text (at + 1) stop
unfolding stretches_at
goes_over stretch text at stop b l e h = stretch_on stretch text at stop l (ap (λ x. stretches_over stretch (class_of x)) e ∙ h)

-- the first byte of a number is no blank
digit_first : (text : List ℕ) (at n stop : ℕ) → Holds text at (decimals 20 n) → stretch_end Blanks text at stop ≡ at
digit_first text at n stop h =
    let e : at + 0 ≡ at = omega arith in
    let first = every_at (λ b. not (is_blank (class_of b))) (decimals 20 n) 0 (decimals-every (λ b. not (is_blank (class_of b))) (λ d l. ap (λ x. not (is_blank x)) (digit_class d l)) 20 n) (decimals-some 19 n) in
    stops_here
    Blanks
    text
    at
    stop
    (get_or (decimals 20 n) 0 0)
    (ap (λ k. get_or text k 0) (sym e) ∙ h.at_each 0 (decimals-some 19 n))
    (not-true (is_blank (class_of (get_or (decimals 20 n) 0 0))) first)

-- a line of three numbers below 10^9, up to its LF
unfoldable pub three_body : ℕ → ℕ → ℕ → List ℕ
three_body a b c = number_text a 32 ++ (number_text b 32 ++ decimals 20 c)

pub sizes_body : (a b c : ℕ) → sizes_text a b c ≡ three_body a b c ++ (10 ∷ [])
unfolding three_body sizes_text number_text
sizes_body a b c = simp append_assoc

holds_at : {text bytes : List ℕ} {at to : ℕ} → at ≡ to → Holds text at bytes → Holds text to bytes
holds_at e h = rw e at h

-- a byte after some bytes
byte_after : {text : List ℕ} {at : ℕ} (s : List ℕ) (b : ℕ) → Holds text at (s ++ (b ∷ [])) → get_or text (at + length s) 0 ≡ b
byte_after {text} {at} s b h =
    let e : at + length s + 0 ≡ at + length s = omega arith in
    ap (λ k. get_or text k 0) (sym e) ∙ (holds_right s (b ∷ []) h).at_each 0 (omega arith)

-- a number with a space after it is read back, from its first digit on and from blanks before it
number_spaced :
    (text : List ℕ) (at end from n : ℕ) → stretch_end Blanks text at end ≡ from → Holds text from (decimals 20 n ++ (32 ∷ [])) → n < 10 ^ 9 →
    from + length (decimals 20 n) ≤ end → number_at text at end ≡ (record { value = Some n; stop = from + length (decimals 20 n) })
number_spaced text at end from n blanks held small inside =
    number-back text at end from n blanks (holds-left (decimals 20 n) (32 ∷ []) held) small inside
    (stops_here Nonblanks text (from + length (decimals 20 n)) end 32 (byte_after (decimals 20 n) 32 held) (ap (stretches_over Nonblanks) space_class))

pub number-first :
    (text : List ℕ) (at end n : ℕ) → Holds text at (decimals 20 n ++ (32 ∷ [])) → n < 10 ^ 9 →
    at + length (decimals 20 n) ≤ end → number_at text at end ≡ (record { value = Some n; stop = at + length (decimals 20 n) })
number-first text at end n held small inside =
    number_spaced text at end at n (digit_first text at n end (holds-left (decimals 20 n) (32 ∷ []) held)) held small inside

-- where the second and the third number of a line start, and where the line ends
abbrev pub second : ℕ → ℕ → ℕ
second at a = at + length (decimals 20 a) + 1

abbrev pub third : ℕ → ℕ → ℕ → ℕ
third at a b = second (second at a) b

abbrev pub line_over : ℕ → ℕ → ℕ → ℕ → ℕ
line_over at a b c = third at a b + length (decimals 20 c)

pub body_length : (at a b c : ℕ) → at + length (three_body a b c) ≡ line_over at a b c
unfolding three_body number_text
body_length at a b c =
    let first = decimals 20 a in
    let next = decimals 20 b in
    let last = decimals 20 c in
    omega
    (arith, length-append (first ++ (32 ∷ [])) ((next ++ (32 ∷ [])) ++ last), length-append first (32 ∷ []), length-append (next ++ (32 ∷ [])) last, length-append next (32 ∷ []))

-- the line with its LF
pub sizes_length : (at a b c : ℕ) → at + length (sizes_text a b c) ≡ line_over at a b c + 1
sizes_length at a b c =
    omega (arith, ap length (sizes_body a b c), length-append (three_body a b c) (10 ∷ []), body_length at a b c)

module _
    (text : List ℕ) (at a b c : ℕ) (held : Holds text at (three_body a b c))
    (sa : a < 10 ^ 9) (sb : b < 10 ^ 9) (sc : c < 10 ^ 9) where
  held_first : Holds text at (decimals 20 a ++ (32 ∷ []))
  unfolding three_body number_text
  held_first = holds-left (decimals 20 a ++ (32 ∷ [])) ((decimals 20 b ++ (32 ∷ [])) ++ decimals 20 c) held

  held_rest : Holds text (second at a) ((decimals 20 b ++ (32 ∷ [])) ++ decimals 20 c)
  unfolding three_body number_text
  held_rest =
      holds_at
      (omega (arith, length-append (decimals 20 a) (32 ∷ [])))
      (holds_right (decimals 20 a ++ (32 ∷ [])) ((decimals 20 b ++ (32 ∷ [])) ++ decimals 20 c) held)

  held_second : Holds text (second at a) (decimals 20 b ++ (32 ∷ []))
  held_second = holds-left (decimals 20 b ++ (32 ∷ [])) (decimals 20 c) held_rest

  held_third : Holds text (third at a b) (decimals 20 c)
  held_third =
      holds_at
      (omega (arith, length-append (decimals 20 b) (32 ∷ [])))
      (holds_right (decimals 20 b ++ (32 ∷ [])) (decimals 20 c) held_rest)

  first-number :
      number_at text at (line_over at a b c) ≡ (record { value = Some a; stop = at + length (decimals 20 a) })
  first-number = number-first text at (line_over at a b c) a held_first sa (omega arith)

  second-number :
      number_at text (at + length (decimals 20 a)) (line_over at a b c)
      ≡ (record { value = Some b; stop = second at a + length (decimals 20 b) })
  second-number =
      number_spaced
      text
      (at + length (decimals 20 a))
      (line_over at a b c)
      (second at a)
      b
      (goes_over Blanks text (at + length (decimals 20 a)) (line_over at a b c) 32 (omega arith) (byte_after (decimals 20 a) 32 held_first) (ap (stretches_over Blanks) space_class)
      ∙ digit_first text (second at a) b (line_over at a b c) (holds-left (decimals 20 b) (32 ∷ []) held_second))
      held_second
      sb
      (omega arith)

  third-number :
      number_at text (second at a + length (decimals 20 b)) (line_over at a b c)
      ≡ (record { value = Some c; stop = line_over at a b c })
  third-number =
      number-back
      text
      (second at a + length (decimals 20 b))
      (line_over at a b c)
      (third at a b)
      c
      (goes_over Blanks text (second at a + length (decimals 20 b)) (line_over at a b c) 32 (omega arith) (byte_after (decimals 20 b) 32 held_second) (ap (stretches_over Blanks) space_class)
      ∙ digit_first text (third at a b) c (line_over at a b c) held_third)
      held_third
      sc
      (omega arith)
      (stretch_over Nonblanks text (line_over at a b c) (line_over at a b c) (omega arith))

  line_over_lem : ends_at text (line_over at a b c) (line_over at a b c) ≡ true
  unfolding ends_at
  line_over_lem = eq-eqb (stretch_end Blanks text (line_over at a b c) (line_over at a b c)) (line_over at a b c) (stretch_over Blanks text (line_over at a b c) (line_over at a b c) (omega arith))

  -- the three numbers are read back
  pub three_back :
      numbers_at text at (line_over at a b c) Integer ≡ Ok (record { first = a; second = b; third = c })
  unfolding numbers_at ◌and◌ pick
  three_back = rw (first-number, second-number, third-number, line_over_lem)

  -- and the line is not empty
  pub filled-back : stretch_end Blanks text at (line_over at a b c) ≡ at
  filled-back = digit_first text at a (line_over at a b c) (holds-left (decimals 20 a) (32 ∷ []) held_first)
