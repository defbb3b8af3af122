-- The word that a grant writes, on an example: entry 1 of table 1 with rights 3, granted into slot 0 of entry 0 of table 1.
-- Where task 1 was loaded before anything was placed in its table, entry 0 of table 1 is its first context.
use Rattle.std.proofs.Common.{◌≡◌, ◌+◌, ◌≤◌, true, false, ◌&&◌, leb, ltb, [], ◌∷◌, length, is_ok, Ok, Err, Result, refl, arith}
use Rattle.std.proofs.lemmas.Bool.{both_ways}
use Rattle.bank.specs.Words.{word_bytes}
use Rattle.bank.proofs.WordLaws.{word_written}
use Rattle.rules.specs.declared.fault.Fault.{Fault}
use Rattle.rules.specs.declared.shown.Place.{Place}
use Rattle.rules.specs.State.{State, encode, entry, held, shown, slot_at}
use Rattle.rules.specs.declared.fault.Reason.TheVariants.{WrongType}
use Rattle.rules.specs.Tests.{◌≫=◌, check, in_range, loading, refusal}
use Rattle.rules.specs.Effects.{Planned, apply, done, overwrite, put, put_word}
use Rattle.rules.specs.Loading.{grant_plan, holds, nameable}
use Rattle.std.specs.Option.{is_some}

pub word : encode (record { table = 1; index = 1; rights = 3 }) ≡ 0x07001001
unfolding encode
word = refl

pub low_byte_first : word_bytes 0x07001001 ≡ 0x01 ∷ 0x10 ∷ 0x00 ∷ 0x07 ∷ []
unfolding word_bytes
low_byte_first = refl

after_three : (a b c : Result (Unit {0}) Fault) (p : Planned (Unit {0})) (s : State) → is_ok (done s (a ≫= λ _. b ≫= λ _. c ≫= λ _. Ok p)).0 ≡ true → (done s (a ≫= λ _. b ≫= λ _. c ≫= λ _. Ok p)).1 ≡ apply p.effect s
after_three (Ok x) (Ok y) (Ok z) p s e = refl
after_three (Err f) b c p s e = absurd (both_ways false refl e)
after_three (Ok x) (Err f) c p s e = absurd (both_ways false refl e)
after_three (Ok x) (Ok y) (Err f) p s e = absurd (both_ways false refl e)

abbrev pub slot_of : State → Place
slot_of s = record { by = shown s 1 0; at = 0 }

-- a grant that is not refused writes the word, and nothing else
pub grant_writes : (s : State) → is_ok (done s (grant_plan 1 0 0 1 1 3 s)).0 ≡ true → (done s (grant_plan 1 0 0 1 1 3 s)).1 ≡ put (slot_of s) 0x07001001 s
unfolding grant_plan encode
grant_writes s e =
    let free : Result (Unit {0}) Fault = loading s 0 in
    let kinds : Result (Unit {0}) Fault = check (holds (entry s 1 0) && nameable (entry s 1 1)) (refusal WrongType 0) in
    let ranges : Result (Unit {0}) Fault = in_range (is_some (entry s 1 1) && (is_some (entry s 1 0) && ltb 0 (shown s 1 0).slots && leb 3 63)) 0 in
    after_three free kinds ranges (record { answer = tt; effect = put_word (slot_of s) 0x07001001 }) s e

-- and it is then what the slot holds, on a bank that has the slot
pub grant_held : (s : State) → is_ok (done s (grant_plan 1 0 0 1 1 3 s)).0 ≡ true → slot_at (shown s 1 0) 0 + 4 ≤ length s.bytes → held (done s (grant_plan 1 0 0 1 1 3 s)).1 (slot_of s) ≡ 0x07001001
unfolding held put overwrite
grant_held s e room = rw (grant_writes s e) (word_written s.bytes (slot_at (shown s 1 0) 0) 0x07001001 room (omega arith))
