-- Document 01, 'Refusal table', with the words of document 02's requests 1 and 7: the numbers of its words, checks made one after another, and what a call replies in numbers.
-- Assumes nothing.
use Rattle.std.specs.Prelude.{Bool, true, false, List, [], ℕ, zero, suc, ◌+◌, ◌*◌, Result, Ok, Err, ⊤}
use Rattle.model.specs.declared.Word.{Word}
use Rattle.model.specs.declared.Word.TheVariants.{Banner, SizeLine, EntryForm, TooBig, OffMatrix, Repeated, Count, BadPart, ShortBuffer, Order, Cap, NoSplit, Budget, State, NotSquare, AboveDiagonal, SplitNumber}
use Rattle.model.specs.declared.Refusal.{Refusal}

-- No.: the table's number for each word
abbrev pub refusal_number : Word → ℕ
refusal_number Banner = 1
refusal_number SizeLine = 2
refusal_number EntryForm = 3
refusal_number TooBig = 4
refusal_number OffMatrix = 5
refusal_number Repeated = 6
refusal_number Count = 7
refusal_number BadPart = 8
refusal_number ShortBuffer = 9
refusal_number Order = 10
refusal_number Cap = 11
refusal_number NoSplit = 12
refusal_number Budget = 13
refusal_number State = 14
refusal_number NotSquare = 15
refusal_number AboveDiagonal = 16
refusal_number SplitNumber = 17

-- what a check answers: nothing to refuse, or a refusal
abbrev pub Verdict : Type 0
Verdict = Result ⊤ Refusal

-- nothing is refused
abbrev pub accepted : Verdict
accepted = Ok tt

-- refused with this word at this place
abbrev pub refused : {A : Type 0} → Word → ℕ → Result A Refusal
refused word place = Err (record { word = word; place = place })

-- one check: refused with this word at this place where the test passes
abbrev pub refuse : Bool → Word → ℕ → Verdict
refuse true word place = refused word place
refuse false word place = accepted

infixl 20 ◌then◌
-- the order of checks: the second, or what is answered, comes where the first refuses nothing
abbrev pub ◌then◌ : {A : Type 0} → Verdict → Result A Refusal → Result A Refusal
Ok _ then later = later
Err refusal then later = Err refusal

-- the verdict of an answer
abbrev pub verdict_in : {A : Type 0} → Result A Refusal → Verdict
verdict_in (Ok _) = accepted
verdict_in (Err refusal) = Err refusal

-- a check of each of the first numbers, in number order
unfoldable pub each_verdict : (ℕ → Verdict) → ℕ → Verdict
each_verdict check zero = accepted
each_verdict check (suc t) = each_verdict check t then check t

-- reply: what an answer is in this paper's numbers: 0, 255 for "none yet", or a refusal's number; a refusal's place, else 0; and the values given
pub record Reply : Type 0 where
  pub number : ℕ
  pub place : ℕ
  pub values : List ℕ

-- the reply of a call that is accepted and gives these values
abbrev pub given : List ℕ → Reply
given values = record { number = 0; place = 0; values = values }

-- "none yet", with these values
abbrev pub none_yet : List ℕ → Reply
none_yet values = record { number = 255; place = 0; values = values }

-- the reply of a refusal: no values
abbrev pub refusal : Word → ℕ → Reply
refusal word place = record { number = refusal_number word; place = place; values = [] }

-- the reply after this verdict: as given where nothing is refused
abbrev pub reply_after : Verdict → Reply → Reply
reply_after (Ok _) reply = reply
reply_after (Err refused) reply = refusal refused.word refused.place

-- what an answer replies: by what it gives, or the refusal
abbrev pub answer_reply : {A : Type 0} → (A → Reply) → Result A Refusal → Reply
answer_reply reply (Ok value) = reply value
answer_reply reply (Err refused) = refusal refused.word refused.place

-- what a verdict alone replies
abbrev pub verdict_reply : Verdict → Reply
verdict_reply verdict = reply_after verdict (given [])

-- a reply as one number: number + 256 × place
unfoldable pub reply_code : Reply → ℕ
reply_code reply = reply.number + 256 * reply.place

-- a refusal as one number
unfoldable pub refusal_code : Word → ℕ → ℕ
refusal_code word place = reply_code (refusal word place)

-- a verdict as one number: 0, or the refusal's
unfoldable pub verdict_code : Verdict → ℕ
verdict_code verdict = reply_code (verdict_reply verdict)
