-- Where the effect of every operator comes from.
use Rattle.std.proofs.Common.{◌≡◌, ℕ, ◌+◌, ◌*◌, ◌==◌, true, ◌&&◌, bit_and, bit_or, nat_le, nat_lt, List, [], ◌∷◌, length, Some, None, Option, Result}
use Rattle.std.proofs.lemmas.Bool.{and_parts, eqb-true, leb-true, ltb-true}
use Rattle.std.specs.Option.{IfSome}
use Rattle.std.specs.Result.{IfOk}
use Rattle.rules.specs.declared.call.Answer.TheVariants.{Done}
use Rattle.rules.specs.declared.call.Operator.{Operator}
use Rattle.rules.specs.declared.call.Operator.TheVariants.{Copy, Null, Restrict, Amplify, Create, Typed, Refine, Read, Write, See, Look, Call, Return}
use Rattle.rules.specs.declared.fault.Fault.{Fault}
use Rattle.rules.specs.declared.descriptor.Descriptor.{Descriptor}
use Rattle.rules.specs.declared.entry.TypeControl.{TypeControl}
use Rattle.rules.specs.declared.shown.Place.{Place}
use Rattle.rules.specs.State.{State, entry, has, held, level, named, read, shown, stack, table, type1, type2, write}
use Rattle.rules.specs.Tests.{◌≫=◌, control, destination, fits, has_room, kind_by, level_by, operator, overwritable, source, source_or_null, source_with}
use Rattle.rules.specs.Effects.{Planned}
use Rattle.rules.specs.Operators.{amplify_plan, call_plan, calling, copy_plan, create_plan, first_of, has_parts, level_named, look_plan, makes, null_plan, read_plan, refine_plan, restrict_plan, return_plan, see_plan, stores, typed_plan, with_rights, word_of, write_plan}
use Rattle.rules.specs.Calls.{looked, operator_outcome, seen}
use Rattle.soundness.proofs.Binds.{HasPlan, after, after_check, after_some, answers, fills}
use Rattle.soundness.proofs.Origins.{Calls, Comes, ControlBy, Destination, Given, Makes, Source, Word, control_finds, destination_finds, operator_finds, source_finds, source_or_null_finds, source_with_finds}

-- the effect of a plan of task q, if it has one, comes from its operands
abbrev pub Coming : {X : Type 0} → State → ℕ → Result (Planned X) Fault → Type 0
Coming s q r = IfOk r (λ p. Comes s q p.effect)

module _ (s : State) (q : ℕ) where
  -- each test gives what it found to the rest of a plan
  module _ {X : Type 0} where
    pub after_operator : (f : ℕ → Result (Planned X) Fault) → ((c : ℕ) → Calls s q c → Coming s q (f c)) → Coming s q (operator s q ≫= f)
    after_operator f = after _ _ (operator s q) f (operator_finds s q)

    module _ (c p sel : ℕ) (o : Calls s q c) where
      pub after_source_or_null : (f : Option Descriptor → Result (Planned X) Fault) → ((x : Option Descriptor) → IfSome x (Source s q) → Coming s q (f x)) → Coming s q (source_or_null s q c p sel ≫= f)
      after_source_or_null f = after _ _ (source_or_null s q c p sel) f (source_or_null_finds s q c p sel o)

      pub after_source : (f : Descriptor → Result (Planned X) Fault) → ((d : Descriptor) → Source s q d → Coming s q (f d)) → Coming s q (source s q c p sel ≫= f)
      after_source f = after _ _ (source s q c p sel) f (source_finds s q c p sel o)

      pub after_source_with : (right : ℕ) (f : Descriptor → Result (Planned X) Fault) → ((d : Descriptor) → Source s q d × (has right d.rights ≡ true) → Coming s q (f d)) → Coming s q (source_with right s q c p sel ≫= f)
      after_source_with right f = after _ _ (source_with right s q c p sel) f (source_with_finds s q c p sel o right)

      pub after_control : (right : ℕ) (f : TypeControl → Result (Planned X) Fault) → ((k : TypeControl) → ControlBy s q right k → Coming s q (f k)) → Coming s q (control right s q c p sel ≫= f)
      after_control right f = after _ _ (control right s q c p sel) f (control_finds s q c p sel o right)

      pub after_destination : (f : Place → Result (Planned X) Fault) → ((l : Place) → Destination s q l → Coming s q (f l)) → Coming s q (destination s q c p sel ≫= f)
      after_destination f = after _ _ (destination s q c p sel) f (destination_finds s q c p sel o)

  -- the storing of a descriptor
  pub stores_comes : (d : Descriptor) (l : Place) → Given s q d → Destination s q l → Coming s q (stores s q d l)
  unfolding stores
  stores_comes d l from to =
      after_check _ (nat_le (level_by (entry s d.table d.index)) l.by.level) _ _ (λ low.
      Comes.puts l _ to (Word.word_of d from (leb-true _ _ low)))

  -- the making of an object
  pub makes_comes : (c n k kind : ℕ) (l : Place) → Calls s q c → Destination s q l → Makes s q kind → Coming s q (makes s q l n k kind)
  unfolding makes
  makes_comes c n k kind l o to type =
      after_check _ (nat_le n 2048 && nat_le k 512) _ _ (λ _.
      after_check _ (nat_le (level s q) l.by.level) _ _ (λ low.
      after_check _ (has_room (table s q) (4 * k + n)) _ _ (λ room.
      Comes.makes c n k kind l o to type (leb-true _ _ low) room)))

  -- the word of an argument or a result, which may be null
  pub passed : (n : ℕ) (x : Option Descriptor) → IfSome x (Source s q) → nat_le (level_named s x) n ≡ true → Word s q n (word_of x)
  passed n (Some d) from low = Word.word_of d (Given.as_it_is d from) (leb-true _ _ low)
  passed n None from low = Word.nothing_named

  -- the context from which the current one was called
  pub called_from : (c b : ℕ) → Calls s q c → calling (stack s q) ≡ Some b → (outer : List ℕ) × (stack s q ≡ c ∷ b ∷ outer)
  called_from c b o from = go o.outer o.on_top
    where
      go : (cs : List ℕ) → stack s q ≡ c ∷ cs → (outer : List ℕ) × (stack s q ≡ c ∷ b ∷ outer)
      go [] e = let none : None ≡ Some b = rw e at from in cc
      go (k ∷ ks) e = let same : Some k ≡ Some b = rw e at from in let same' : k ≡ b = cc in (ks, rw same' at e)

  -- the operators, one by one
  pub copy_comes : (src dst : ℕ) → Coming s q (copy_plan q src dst s)
  unfolding copy_plan
  copy_comes src dst =
      after_operator _ (λ c o.
      after_source c 1 src o _ (λ d from.
      after_destination c 2 dst o _ (λ l to.
      stores_comes d l (Given.as_it_is d from) to)))

  pub null_comes : (dst : ℕ) → Coming s q (null_plan q dst s)
  unfolding null_plan
  null_comes dst =
      after_operator _ (λ c o.
      after_destination c 1 dst o _ (λ l to.
      Comes.puts l 0 to Word.nothing_named))

  pub restrict_comes : (src dst mask : ℕ) → Coming s q (restrict_plan q src dst mask s)
  unfolding restrict_plan
  restrict_comes src dst mask =
      after_operator _ (λ c o.
      after_source c 1 src o _ (λ d from.
      after_destination c 2 dst o _ (λ l to.
      after_check _ (nat_le mask 63) _ _ (λ _.
      stores_comes (with_rights (bit_and d.rights mask) d) l (Given.with_fewer d mask from) to))))

  pub amplify_comes : (ctl src dst : ℕ) → Coming s q (amplify_plan q ctl src dst s)
  unfolding amplify_plan
  amplify_comes ctl src dst =
      after_operator _ (λ c o.
      after_control c 1 ctl o type2 _ (λ k by.
      after_source c 2 src o _ (λ d from.
      after_check _ (kind_by (entry s d.table d.index) == k.kind) _ _ (λ same.
      after_destination c 3 dst o _ (λ l to.
      stores_comes (with_rights (bit_or d.rights k.rights) d) l (Given.with_more d k from by (eqb-true _ _ same)) to)))))

  pub create_comes : (dst n k : ℕ) → Coming s q (create_plan q dst n k s)
  unfolding create_plan
  create_comes dst n k =
      after_operator _ (λ c o.
      after_destination c 1 dst o _ (λ l to.
      makes_comes c n k 0 l o to Makes.generic))

  pub typed_comes : (ctl dst n k : ℕ) → Coming s q (typed_plan q ctl dst n k s)
  unfolding typed_plan
  typed_comes ctl dst n k =
      after_operator _ (λ c o.
      after_control c 1 ctl o type1 _ (λ t by.
      after_destination c 2 dst o _ (λ l to.
      makes_comes c n k t.kind l o to (Makes.of_type t by))))

  pub refine_comes : (src dst byte bytes slot slots : ℕ) → Coming s q (refine_plan q src dst byte bytes slot slots s)
  unfolding refine_plan
  refine_comes src dst byte bytes slot slots =
      after_operator _ (λ c o.
      after_source c 1 src o _ (λ d from.
      after_check _ (has_parts (entry s d.table d.index)) _ _ (λ parts.
      after_destination c 2 dst o _ (λ l to.
      after_check _ (fits byte bytes (shown s d.table d.index).bytes && fits slot slots (shown s d.table d.index).slots) _ _ (λ inside.
      after_check _ (nat_le (level s q) l.by.level) _ _ (λ low.
      after_check _ (has_room (table s q) 0) _ _ (λ room.
      let both = and_parts _ _ inside in
      Comes.refines c byte bytes slot slots d l o from parts to (leb-true _ _ both.0) (leb-true _ _ both.1) (leb-true _ _ low) room)))))))

  pub read_comes : (src offset n : ℕ) → Coming s q (read_plan q src offset n s)
  unfolding read_plan
  read_comes src offset n =
      after_operator _ (λ c o.
      after_source_with c 1 src o read _ (λ d from.
      after_check _ (fits offset n (shown s d.table d.index).bytes) _ _ (λ _. Comes.keeps)))

  pub write_comes : (src offset : ℕ) (bs : List ℕ) → Coming s q (write_plan q src offset bs s)
  unfolding write_plan
  write_comes src offset bs =
      after_operator _ (λ c o.
      after_source_with c 1 src o write _ (λ d from.
      after_check _ (fits offset (length bs) (shown s d.table d.index).bytes) _ _ (λ inside.
      Comes.writes d offset bs from.0 from.1 (leb-true _ _ inside))))

  pub see_comes : (src : ℕ) → Coming s q (see_plan q src s)
  unfolding see_plan
  see_comes src =
      after_operator _ (λ c o.
      after_source_or_null c 1 src o _ (λ x from. Comes.keeps))

  pub look_comes : (src : ℕ) → Coming s q (look_plan q src s)
  unfolding look_plan
  look_comes src =
      after_operator _ (λ c o.
      after_source c 1 src o _ (λ d from. Comes.keeps))

  pub call_comes : (arg k : ℕ) → Coming s q (call_plan q arg k s)
  unfolding call_plan
  call_comes arg k =
      after_operator _ (λ c o.
      after_check _ (nat_lt (level s q) 8) _ _ (λ below.
      after_source_or_null c 1 arg o _ (λ x from.
      after_check _ (nat_le 4 k && nat_le k 64) _ _ (λ size.
      after_check _ (nat_le (level_named s x) (level s q + 1)) _ _ (λ low.
      after_check _ (has_room (table s q) (4 * k)) _ _ (λ room.
      let both = and_parts _ _ size in
      Comes.enters c k (word_of x) o (record { has_slots = leb-true _ _ both.0; few_slots = leb-true _ _ both.1; few_levels = ltb-true _ _ below }) (passed _ x from low) room))))))

  pub return_comes : (res : ℕ) → Coming s q (return_plan q res s)
  unfolding return_plan
  return_comes res =
      after_operator _ (λ c o.
      after_some _ (calling (stack s q)) _ _ (λ b under.
      after_source_or_null c 1 res o _ (λ x from.
      after_check _ (overwritable (named s (held s (first_of (shown s q b))))) _ _ (λ _.
      after_check _ (nat_le (level_named s x) (first_of (shown s q b)).by.level) _ _ (λ low.
      let there = called_from c b o under in
      Comes.leaves c b (word_of x) there.0 o there.1 (passed _ x from low))))))

-- each operator is made by its plan
abbrev pub operator_plan : (q : ℕ) (c : Operator) (bs : List ℕ) → HasPlan (λ s x. Comes s q x) (operator_outcome q c bs)
operator_plan q (Copy src dst) bs = answers (λ _. Done) bs (copy_plan q src dst) (λ s. copy_comes s q src dst)
operator_plan q (Null dst) bs = answers (λ _. Done) bs (null_plan q dst) (λ s. null_comes s q dst)
operator_plan q (Restrict src dst mask) bs = answers (λ _. Done) bs (restrict_plan q src dst mask) (λ s. restrict_comes s q src dst mask)
operator_plan q (Amplify ctl src dst) bs = answers (λ _. Done) bs (amplify_plan q ctl src dst) (λ s. amplify_comes s q ctl src dst)
operator_plan q (Create dst n k) bs = answers (λ _. Done) bs (create_plan q dst n k) (λ s. create_comes s q dst n k)
operator_plan q (Typed ctl dst n k) bs = answers (λ _. Done) bs (typed_plan q ctl dst n k) (λ s. typed_comes s q ctl dst n k)
operator_plan q (Refine src dst byte bytes slot slots) bs = answers (λ _. Done) bs (refine_plan q src dst byte bytes slot slots) (λ s. refine_comes s q src dst byte bytes slot slots)
operator_plan q (Read src offset) bs = fills bs (read_plan q src offset (length bs)) (λ s. read_comes s q src offset (length bs))
operator_plan q (Write src offset) bs = answers (λ _. Done) bs (write_plan q src offset bs) (λ s. write_comes s q src offset bs)
operator_plan q (See src) bs = answers seen bs (see_plan q src) (λ s. see_comes s q src)
operator_plan q (Look src) bs = answers looked bs (look_plan q src) (λ s. look_comes s q src)
operator_plan q (Call arg k) bs = answers (λ _. Done) bs (call_plan q arg k) (λ s. call_comes s q arg k)
operator_plan q (Return res) bs = answers (λ _. Done) bs (return_plan q res) (λ s. return_comes s q res)
