-- What is read so far, and what is left.
use Rattle.std.proofs.Common.{◌≡◌, ◌∙◌, ℕ, suc, ◌+◌, ◌<◌, ◌≤◌, Bool, true, false, cond, List, [], ◌∷◌, ◌++◌, length, drop, get_or, sym, refl, ap, ap₂, append_assoc, append-nil, Option, Some, None, Ok, Err, arith}
use Rattle.std.specs.Prelude.{Result}
use Rattle.std.proofs.lemmas.List.{drop_all}
use Rattle.hilti_base.specs.declared.names.Place.{Place}
use Rattle.hilti_base.specs.declared.refusal.Refusal.{Refusal}
use Rattle.hilti_base.specs.declared.refusal.Refusal.TheVariants.{At, NoMemory}
use Rattle.hilti_module.specs.declared.types.Name.{Name}
use Rattle.hilti_module.specs.declared.types.Word.{Word}
use Rattle.hilti_module.specs.declared.module.Body.{Body}
use Rattle.hilti_module.specs.declared.module.Handler.{Handler}
use Rattle.hilti_module.specs.declared.module.Line.{Line}
use Rattle.hilti_module.specs.declared.module.Line.TheVariants as lines
use Rattle.hilti_module.specs.declared.module.Mnemonic.{Mnemonic}
use Rattle.hilti_module.specs.declared.module.Operand.{Operand}
use Rattle.hilti_scope.specs.declared.meaning.Meaning.{Meaning}
use Rattle.hilti_scope.specs.FirstPlaces.{place_of}
use Rattle.hilti_link.specs.declared.tables.LinkedFunction.{LinkedFunction}
use Rattle.hilti_link.specs.declared.tables.Tables.{Tables}
use Rattle.hilti_parts.specs.declared.parts.Block.{Block}
use Rattle.hilti_parts.specs.declared.parts.Handler.{Handler as Handled}
use Rattle.hilti_parts.specs.declared.parts.Instruction.{Instruction}
use Rattle.hilti_typing.specs.Programs.{is_ending}
use Rattle.hilti_operands.specs.Answers.{Told, then_read, refused}
use Rattle.hilti_operands.specs.Seen.{BodySeen}
use Rattle.hilti_operands.proofs.Telling.{first_told, told_same, front}
use Rattle.hilti_operands.proofs.ReadValues.{then_ok, ok_is}
use Rattle.hilti_lines.specs.Lines.{read_line}
use Rattle.hilti_bodies.specs.Sections.{Section, leading, first_label, section, begins_with_label, unlabelled, sections, block_of}
use Rattle.hilti_bodies.specs.Blocks.{read_each, read_written, none_behind, read_instructions, ended_block, read_label, read_block, read_blocks, seen_in, read_body}

abbrev pub behind : {A : Type 0} → List A → Result (List A) Refusal → Result (List A) Refusal
behind {A} done rest = then_read rest (λ (more : List A). Ok (done ++ more))

pub behind_none : {A : Type 0} (r : Result (List A) Refusal) → r ≡ behind [] r
behind_none (Ok more) = refl
behind_none (Err refusal) = refl

behind_more : {A : Type 0} (done : List A) (x : A) (r : Result (List A) Refusal) → behind done (then_read r (λ (more : List A). Ok (x ∷ more))) ≡ behind (done ++ x ∷ []) r
behind_more done x (Ok more) = ap Ok (sym (append_assoc done (x ∷ []) more))
behind_more done x (Err refusal) = refl

behind_first : {A : Type 0} (x : A) (done : List A) (r : Result (List A) Refusal) → then_read (behind done r) (λ (more : List A). Ok (x ∷ more)) ≡ behind (x ∷ done) r
behind_first x done (Ok more) = refl
behind_first x done (Err refusal) = refl

inner : {A : Type 0} (x : A) (r : Result (List A) Refusal) {refusal : Refusal} → then_read r (λ (others : List A). Ok (x ∷ others)) ≡ Err refusal → r ≡ Err refusal
inner x (Ok others) e = cc
inner x (Err other) {refusal} e = let same : other ≡ refusal = cc in ap Err same

-- an answer is told of what it is
pub told_of : {A : Type 0} (answer r : Result A Refusal) → r ≡ answer → Told answer r
told_of (Ok value) r e = e
told_of (Err (At place code)) r e = e
told_of (Err NoMemory) r e = tt

-- each of some things
module _ {A B : Type 0} (read : A → Result B Refusal) where
  from_place : (items : List A) (at : ℕ) (x : A) → at < length items → x ≡ get_or items at x
      → read_each read (drop at items) ≡ then_read (read x) (λ (first : B). then_read (read_each read (drop (at + 1) items)) (λ (others : List B). Ok (first ∷ others)))
  unfolding read_each
  from_place items at x h is = ap (read_each read) (front items at x h is)

  pub each_next : (whole : Result (List B) Refusal) (items : List A) (at : ℕ) (x : A) (done : List B) (y : B) → at < length items → x ≡ get_or items at x → read x ≡ Ok y
      → whole ≡ behind done (read_each read (drop at items)) → whole ≡ behind (done ++ y ∷ []) (read_each read (drop (at + 1) items))
  each_next whole items at x done y h is r w =
      w ∙ (ap (behind done) (from_place items at x h is
      ∙ ap (λ q. then_read q (λ (first : B). then_read (read_each read (drop (at + 1) items)) (λ (others : List B). Ok (first ∷ others)))) r)
      ∙ behind_more done y (read_each read (drop (at + 1) items)))

  pub each_stops : (whole : Result (List B) Refusal) (items : List A) (at : ℕ) (x : A) (done : List B) (refusal : Refusal) → at < length items → x ≡ get_or items at x → Told (Err refusal) (read x)
      → whole ≡ behind done (read_each read (drop at items)) → Told (Err refusal) whole
  each_stops whole items at x done refusal h is told w =
      told_same (Err refusal) whole _ (w ∙ ap (behind done) (from_place items at x h is))
      (first_told refusal _ _ (first_told refusal _ _ told))

  pub each_read : (whole : Result (List B) Refusal) (items : List A) (at : ℕ) (done : List B) → length items ≤ at → whole ≡ behind done (read_each read (drop at items)) → whole ≡ Ok done
  unfolding read_each
  each_read whole items at done h w = w ∙ (ap (behind done) (ap (read_each read) (drop_all at items h)) ∙ ap Ok (append-nil done))

-- the instructions of a block that are left, where an ending one stands before them or doesn't
abbrev pub instructions_left : BodySeen → Bool → List Line → Place → Result (List Instruction) Refusal
instructions_left body ended rest close = cond ended (none_behind (leading rest)) (read_instructions body (leading rest) (first_label rest close))

module _ (body : BodySeen) (items : List Line) (at : ℕ) (close : Place) (whole : Result (List Instruction) Refusal) (done : List Instruction) (ended : Bool)
    (w : whole ≡ behind done (instructions_left body ended (drop at items) close)) where
  left_at : (x : Line) (y : Line) → at < length items → x ≡ get_or items at x → x ≡ y → whole ≡ behind done (instructions_left body ended (y ∷ drop (at + 1) items) close)
  left_at x y h is same = w ∙ ap (λ rest. behind done (instructions_left body ended rest close)) (front items at x h is ∙ ap (λ z. z ∷ drop (at + 1) items) same)

  ended_here : (b : Bool) (place : Place) → behind done (cond b (Ok []) (refused place 33)) ≡ ended_block b done place
  ended_here true place = ap Ok (append-nil done)
  ended_here false place = refl

  pub ends_at_label : (x : Line) (place : Place) (name : Word) (handlers : List Handler) → at < length items → x ≡ get_or items at x → x ≡ lines.Label place name handlers
      → whole ≡ ended_block ended done place
  unfolding leading first_label read_instructions
  ends_at_label x place name handlers h is label = left_at x (lines.Label place name handlers) h is label ∙ ended_here ended place

  pub ends_at_brace : length items ≤ at → whole ≡ ended_block ended done close
  unfolding leading first_label read_instructions
  ends_at_brace h = w ∙ (ap (λ rest. behind done (instructions_left body ended rest close)) (drop_all at items h) ∙ ended_here ended close)

  pub stands_behind : (x : Line) (target : Option Name) (mnemonic : Mnemonic) (operands : List Operand) → at < length items → x ≡ get_or items at x
      → x ≡ lines.Instruction target mnemonic operands → ended ≡ true → whole ≡ refused mnemonic.first.place 34
  unfolding leading first_label
  stands_behind x target mnemonic operands h is other end =
      left_at x (lines.Instruction target mnemonic operands) h is other
      ∙ ap (λ b. behind done (instructions_left body b (lines.Instruction target mnemonic operands ∷ drop (at + 1) items) close)) end

  -- the next instruction is read
  layer : (x : Line) (target : Option Name) (mnemonic : Mnemonic) (operands : List Operand) → at < length items → x ≡ get_or items at x
      → x ≡ lines.Instruction target mnemonic operands → ended ≡ false
      → whole ≡ behind done (then_read (read_line body target mnemonic operands) (λ (first : Instruction). then_read (instructions_left body (is_ending first) (drop (at + 1) items) close) (λ (others : List Instruction). Ok (first ∷ others))))
  unfolding leading first_label read_instructions read_written
  layer x target mnemonic operands h is other goes =
      left_at x (lines.Instruction target mnemonic operands) h is other
      ∙ ap (λ b. behind done (instructions_left body b (lines.Instruction target mnemonic operands ∷ drop (at + 1) items) close)) goes

  pub line_next : (x : Line) (target : Option Name) (mnemonic : Mnemonic) (operands : List Operand) (i : Instruction) → at < length items → x ≡ get_or items at x
      → x ≡ lines.Instruction target mnemonic operands → ended ≡ false → read_line body target mnemonic operands ≡ Ok i
      → whole ≡ behind (done ++ i ∷ []) (instructions_left body (is_ending i) (drop (at + 1) items) close)
  line_next x target mnemonic operands i h is other goes r =
      layer x target mnemonic operands h is other goes
      ∙ (ap (λ q. behind done (then_read q (λ (first : Instruction). then_read (instructions_left body (is_ending first) (drop (at + 1) items) close) (λ (others : List Instruction). Ok (first ∷ others))))) r
      ∙ behind_more done i (instructions_left body (is_ending i) (drop (at + 1) items) close))

  pub line_stops : (x : Line) (target : Option Name) (mnemonic : Mnemonic) (operands : List Operand) (refusal : Refusal) → at < length items → x ≡ get_or items at x
      → x ≡ lines.Instruction target mnemonic operands → ended ≡ false → Told (Err refusal) (read_line body target mnemonic operands) → Told (Err refusal) whole
  line_stops x target mnemonic operands refusal h is other goes told =
      told_same (Err refusal) whole _ (layer x target mnemonic operands h is other goes) (first_told refusal _ _ (first_told refusal _ _ told))

-- blocks
module _ (body : BodySeen) where
  pub blocks_behind : (number : ℕ) (before after : List Section) (blocks : List Block) → read_blocks body number before ≡ Ok blocks
      → read_blocks body number (before ++ after) ≡ behind blocks (read_blocks body (number + length blocks) after)
  unfolding read_blocks
  blocks_behind number [] after blocks e =
      let none : [] ≡ blocks = ok_is [] blocks e in
      behind_none (read_blocks body number after) ∙ (ap (λ n. behind [] (read_blocks body n after)) (let z : number ≡ number + length (let it : List Block = [] in it) = omega arith in z)
      ∙ ap (λ bs. behind bs (read_blocks body (number + length bs) after)) none)
  blocks_behind number (block ∷ before) after blocks e =
      let first = then_ok (read_block body number block) _ blocks e in
      let rest = then_ok (read_blocks body (suc number) before) _ blocks first.2 in
      let is : first.0 ∷ rest.0 ≡ blocks = ok_is (first.0 ∷ rest.0) blocks rest.2 in
      ap (λ q. then_read q (λ (b : Block). then_read (read_blocks body (suc number) (before ++ after)) (λ (others : List Block). Ok (b ∷ others)))) first.1
      ∙ (ap (λ q. then_read q (λ (others : List Block). Ok (first.0 ∷ others))) (blocks_behind (suc number) before after rest.0 rest.1)
      ∙ (behind_first first.0 rest.0 (read_blocks body (suc number + length rest.0) after)
      ∙ (ap (λ n. behind (first.0 ∷ rest.0) (read_blocks body n after)) (let z : suc number + length rest.0 ≡ number + length (first.0 ∷ rest.0) = omega arith in z)
      ∙ ap (λ bs. behind bs (read_blocks body (number + length bs) after)) is)))

  pub first_behind : (before after : List Section) (blocks : List Block) → read_blocks body 0 before ≡ Ok blocks → read_blocks body 0 (before ++ after) ≡ behind blocks (read_blocks body (length blocks) after)
  first_behind before after blocks e =
      blocks_behind 0 before after blocks e ∙ ap (λ n. behind blocks (read_blocks body n after)) (let z : 0 + length blocks ≡ length blocks = omega arith in z)

  pub blocks_stop : (number : ℕ) (before after : List Section) (refusal : Refusal) → Told (Err refusal) (read_blocks body number before) → Told (Err refusal) (read_blocks body number (before ++ after))
  unfolding read_blocks
  blocks_stop number before after NoMemory told = tt
  blocks_stop number [] after (At place code) told = cc
  blocks_stop number (block ∷ before) after (At place code) told =
      by (λ (again : read_blocks body (suc number) before ≡ Err (At place code)). blocks_stop (suc number) before after (At place code) again) (read_block body number block) told
    where
      by : (read_blocks body (suc number) before ≡ Err (At place code) → read_blocks body (suc number) (before ++ after) ≡ Err (At place code))
          → (r : Result Block Refusal) → then_read r (λ (b : Block). then_read (read_blocks body (suc number) before) (λ (others : List Block). Ok (b ∷ others))) ≡ Err (At place code)
          → then_read r (λ (b : Block). then_read (read_blocks body (suc number) (before ++ after)) (λ (others : List Block). Ok (b ∷ others))) ≡ Err (At place code)
      by again (Err refusal) e = e
      by again (Ok b) e = ap (λ q. then_read q (λ (others : List Block). Ok (b ∷ others))) (again (inner b (read_blocks body (suc number) before) e))

  pub block_next : (whole : Result (List Block) Refusal) (done : List Block) (block : Section) (before after : List Section) (b : Block) → before ≡ block ∷ after → read_block body (length done) block ≡ Ok b
      → whole ≡ behind done (read_blocks body (length done) before) → whole ≡ behind (done ++ b ∷ []) (read_blocks body (length (done ++ b ∷ [])) after)
  unfolding read_blocks
  block_next whole done block before after b is r w =
      w ∙ (ap (λ bs. behind done (read_blocks body (length done) bs)) is
      ∙ (ap (λ q. behind done (then_read q (λ (first : Block). then_read (read_blocks body (suc (length done)) after) (λ (others : List Block). Ok (first ∷ others))))) r
      ∙ (behind_more done b (read_blocks body (suc (length done)) after)
      ∙ ap (λ n. behind (done ++ b ∷ []) (read_blocks body n after)) (one_longer done))))
    where
      one_longer : (xs : List Block) → suc (length xs) ≡ length (xs ++ b ∷ [])
      one_longer [] = refl
      one_longer (x ∷ xs) = ap suc (one_longer xs)

  pub block_stops : (whole : Result (List Block) Refusal) (done : List Block) (block : Section) (before after : List Section) (refusal : Refusal) → before ≡ block ∷ after
      → Told (Err refusal) (read_block body (length done) block) → whole ≡ behind done (read_blocks body (length done) before) → Told (Err refusal) whole
  unfolding read_blocks
  block_stops whole done block before after refusal is told w =
      told_same (Err refusal) whole _ (w ∙ ap (λ bs. behind done (read_blocks body (length done) bs)) is) (first_told refusal _ _ (first_told refusal _ _ told))

  pub blocks_read : (whole : Result (List Block) Refusal) (done : List Block) (rest : List Section) → rest ≡ [] → whole ≡ behind done (read_blocks body (length done) rest) → whole ≡ Ok done
  unfolding read_blocks
  blocks_read whole done rest none w = w ∙ (ap (λ bs. behind done (read_blocks body (length done) bs)) none ∙ ap Ok (append-nil done))

  -- a block
  pub label_stops : (number : ℕ) (block : Section) (refusal : Refusal) → Told (Err refusal) (read_label body number block.label) → Told (Err refusal) (read_block body number block)
  label_stops number block refusal told = first_told refusal _ _ told

  pub instructions_stop : (number : ℕ) (block : Section) (handlers : List Handled) (refusal : Refusal) → read_label body number block.label ≡ Ok handlers
      → Told (Err refusal) (read_instructions body block.instructions block.behind) → Told (Err refusal) (read_block body number block)
  instructions_stop number block handlers refusal r told =
      told_same (Err refusal) _ _ (ap (λ q. then_read q (λ (hs : List Handled). then_read (read_instructions body block.instructions block.behind) (λ (is : List Instruction). Ok (record { handlers = hs; instructions = is })))) r)
      (first_told refusal _ _ told)

  pub block_is : (number : ℕ) (block : Section) (handlers : List Handled) (instructions : List Instruction) → read_label body number block.label ≡ Ok handlers
      → read_instructions body block.instructions block.behind ≡ Ok instructions → read_block body number block ≡ Ok (record { handlers = handlers; instructions = instructions })
  block_is number block handlers instructions r s =
      ap (λ q. then_read q (λ (hs : List Handled). then_read (read_instructions body block.instructions block.behind) (λ (is : List Instruction). Ok (record { handlers = hs; instructions = is })))) r
      ∙ ap (λ q. then_read q (λ (is : List Instruction). Ok (record { handlers = handlers; instructions = is }))) s

  -- the block of a label, by what is the same
  pub told_block : (answer : Result Block Refusal) (number n : ℕ) (place : Place) (name : Word) (hs handlers : List Handler) (rest more : List Line) (close : Place) → number ≡ n → hs ≡ handlers → rest ≡ more
      → Told answer (read_block body number (section (Some (record { place = place; name = name; handlers = hs })) rest close))
      → Told answer (read_block body n (section (Some (record { place = place; name = name; handlers = handlers })) more close))
  told_block answer number n place name hs handlers rest more close a b c told =
      told_same answer (read_block body n (section (Some (record { place = place; name = name; handlers = handlers })) more close))
      (read_block body number (section (Some (record { place = place; name = name; handlers = hs })) rest close))
      (ap (λ k. read_block body k (section (Some (record { place = place; name = name; handlers = handlers })) more close)) (sym a)
      ∙ (ap (λ xs. read_block body number (section (Some (record { place = place; name = name; handlers = xs })) more close)) (sym b)
      ∙ ap (λ ls. read_block body number (section (Some (record { place = place; name = name; handlers = hs })) ls close)) (sym c))) told

  -- the block without a label
  pub no_block : (items : List Line) (close : Place) (done : List Block) → begins_with_label items ≡ true → done ≡ [] → read_blocks body 0 (unlabelled items close) ≡ Ok done
  unfolding read_blocks
  no_block items close done is none = ap (λ b. read_blocks body 0 (cond b [] (section None items close ∷ []))) is ∙ ap Ok (sym none)

  pub first_block_stops : (items : List Line) (close : Place) (refusal : Refusal) → begins_with_label items ≡ false → Told (Err refusal) (read_instructions body (leading items) (first_label items close))
      → Told (Err refusal) (read_blocks body 0 (unlabelled items close))
  unfolding read_blocks
  first_block_stops items close refusal is told =
      told_same (Err refusal) _ _ (ap (λ b. read_blocks body 0 (cond b [] (section None items close ∷ []))) is) (first_told refusal _ _ (first_told refusal _ _ told))

  pub first_block : (items : List Line) (close : Place) (handlers : List Handled) (instructions : List Instruction) (old new : List Block) → begins_with_label items ≡ false
      → read_instructions body (leading items) (first_label items close) ≡ Ok instructions → handlers ≡ [] → old ≡ [] → new ≡ old ++ (record { handlers = handlers; instructions = instructions }) ∷ []
      → read_blocks body 0 (unlabelled items close) ≡ Ok new
  unfolding read_blocks
  first_block items close handlers instructions old new is r none empty pushed =
      ap (λ b. read_blocks body 0 (cond b [] (section None items close ∷ []))) is
      ∙ (ap (λ q. then_read q (λ (b : Block). Ok (b ∷ []))) (block_is 0 (section None items close) [] instructions refl r)
      ∙ ap Ok (ap (λ (hs : List Handled). (let b : Block = record { handlers = hs; instructions = instructions } in b) ∷ []) (sym none)
      ∙ (ap (λ (bs : List Block). bs ++ (let b : Block = record { handlers = handlers; instructions = instructions } in b) ∷ []) (sym empty) ∙ sym pushed)))

-- what a body sees
pub seen_is : (mean : Name → Meaning) (tables : Tables) (function : LinkedFunction) (numbers : List (List ℕ × ℕ)) (blocks : ℕ) (all : List Section) → place_of numbers ≡ block_of all → blocks ≡ length all
    → ◌≡◌ {A = BodySeen} (record { mean = mean; tables = tables; function = function; label = place_of numbers; blocks = blocks }) (seen_in mean tables function all)
seen_is mean tables function numbers blocks all labels count =
    ap₂ (λ (label : List ℕ → Option ℕ) (n : ℕ). let seen : BodySeen = record { mean = mean; tables = tables; function = function; label = label; blocks = n } in seen) labels count

pub body_told : (answer : Result (List Block) Refusal) (mean : Name → Meaning) (tables : Tables) (function : LinkedFunction) (body : Body) (items : List Line) (seen : BodySeen) → items ≡ body.lines
    → seen ≡ seen_in mean tables function (sections items body.close) → Told answer (read_blocks seen 0 (sections items body.close)) → Told answer (read_body mean tables function body)
unfolding read_body
body_told answer mean tables function body items seen same is told =
    told_same answer (read_body mean tables function body) (read_blocks seen 0 (sections items body.close))
    (ap (λ ls. read_blocks (seen_in mean tables function (sections ls body.close)) 0 (sections ls body.close)) (sym same) ∙ ap (λ s. read_blocks s 0 (sections items body.close)) (sym is)) told
