-- What the check of a sheet gives to a walk, and the answers that are made of what two lists hold.
use Prim.Native.Nat.{ℕ, ◌+◌, ◌-◌, ◌*◌, ◌≤◌, ◌<◌}
use native.Mathlib.Omega.{arith}
use mathlib.Core.Path.{◌≡◌, refl, ap, ap₂, sym, ◌∙◌, subst}
use mathlib.Core.List.{List, []}
use mathlib.Core.Bool.{Bool, true, false, cond, ◌&&◌}
use borrow.Author.Tests.{ltb-true, lt-ltb, le-ltb, le-leb}
use lib.Dec.{ltb}
use lib.ListN.{length, get_or, take, drop}
use lib.Seq.{get_or-drop}
use Rattle.kinds.specs.Refusal.{number}
use Rattle.kinds.specs.Sheet.{kind_at, first_at, second_at, count_at, header, is_sheet, tree_of, node_words, header_words, words_used, nests, max_names}
use Rattle.kinds.specs.Sound.{good_names}
use Rattle.kinds.specs.Tree.{Trees, end, node, primitive}
use Rattle.kinds.specs.declared.Refusal.{Refusal}
use Rattle.kinds.specs.declared.Refusal.TheVariants.{NotASheet, BadName}
use Rattle.kinds.proofs.ListLaws.{part-rest}
use Rattle.kinds.proofs.HoldsLaws.{test-holds}
use Rattle.kinds.proofs.NodeLaws.{SheetSays, sheet-says, packed-walk, leaf-count, label-primitive, no-trees}
use Rattle.kinds.proofs.SheetLaws.{trees-step}
use Rattle.sheet.specs.Answer.{Held, held, refused, holding, HeldBoth, held_both, refused_both, holding_both, paired, of_held, of_sheet, of_sheets}
use Rattle.sheet.specs.Answer.{found, checked, checked_number, sheet_number, both, checked_both, checked_both_number, sheets_number, code_of, lone_code}
use Rattle.sheet.specs.Given.{CodeIn, NodesAre, NodesIn, Gives, GivesBoth}
use Rattle.std.specs.Prelude.{Some, None, Result, Ok, Err}
use Rattle.sheet.specs.declared.FoundBoth.{FoundBoth}
use Rattle.sheet.specs.declared.FoundBoth.TheVariants as FoundBoth
use Rattle.sheet.specs.declared.Found.{Found}
use Rattle.sheet.specs.declared.Found.TheVariants as Found
use Rattle.sheet.specs.Walked.{verdict_of, answer, LoneCode}
use Rattle.sheet.proofs.AnswerLaws.{verdict-code}
use Rattle.sheet.proofs.WalkLaws.{code-numbers}

-- ---- What two lists hold.

-- Lists that hold a tree begin with a sheet without bad names, and it is the tree of that sheet.
pub record Holding (words names : List ℕ) (t : Trees) : Type 0 where
  pub sheet : is_sheet words names ≡ true
  pub good : good_names (tree_of words names) ≡ true
  pub tree : tree_of words names ≡ t

module _ (words names : List ℕ) where
  pub held-says : {t : Trees} → held words names ≡ holding t → Holding words names t
  unfolding held
  held-says {t} h = go (is_sheet words names) refl (good_names (tree_of words names)) refl h
    where
      go : (x : Bool) → is_sheet words names ≡ x → (y : Bool) → good_names (tree_of words names) ≡ y → cond x (cond y (holding (tree_of words names)) (refused BadName)) (refused NotASheet) ≡ holding t → Holding words names t
      go true p true q e = record { sheet = p; good = q; tree = cc }
      go true p false q e = let z : ◌≡◌ {A = ℕ} 0 1 = cc in absurd (omega arith)
      go false p y q e = let z : ◌≡◌ {A = ℕ} 0 1 = cc in absurd (omega arith)

  pub held-tree : is_sheet words names ≡ true → good_names (tree_of words names) ≡ true → held words names ≡ holding (tree_of words names)
  unfolding held
  held-tree p q = rw (p, q)

-- ---- What the check gives.

module _ (words names : List ℕ) (h : is_sheet words names ≡ true) (e : held words names ≡ holding (tree_of words names)) where
  says : SheetSays words names
  says = sheet-says words names h

  sheet-nodes : NodesIn words names header_words (get_or words 0 0)
  unfolding tree_of
  sheet-nodes =
      let s = says in
      let r = s.head.room in
      let c = s.count in
      let n = s.root.room in
      record {
        starts = omega arith;
        room = r;
        nodes = record {
          some = s.head.some-nodes;
          few = s.head.few-nodes;
          count = c;
          root = s.root;
          whole = record { room = omega arith; nested = subst (λ (k : ℕ). nests (node_words words) k 0 ≡ true) c s.root.nested };
          lent-names = packed-walk (node_words words) (length names) (get_or words 0 0) 0 0 (get_or words 2 0) s.head.bytes s.packs;
          short-names = packed-walk (node_words words) max_names (get_or words 0 0) 0 0 (get_or words 2 0) s.head.few_bytes s.packs;
          sheet = test-holds words names h;
          holds = e;
        };
      }

  module _ (k : kind_at (node_words words) 0 < 24) where
    -- a code is the only node
    code-count : count_at (node_words words) 0 ≡ 1
    code-count = leaf-count (node_words words) 0 says.root (omega arith)

    code-alone : get_or words 0 0 ≡ 1
    code-alone = sym says.count ∙ code-count

    code-tree : tree_of words names ≡ node (primitive (kind_at (node_words words) 0)) end end
    unfolding tree_of
    code-tree =
        let w = node_words words in
        let c = code-count in
        let n = code-alone in
        trees-step names w (get_or words 0 0) 0 (omega arith) (omega arith)
        ∙ rw (label-primitive names (kind_at w 0) (first_at w 0) (second_at w 0) k, no-trees names w (count_at w 0 - 1) (0 + 4) (omega arith), no-trees names w (get_or words 0 0 - count_at w 0) (0 + 4 * count_at w 0) (omega arith))

    -- seen as nodes it is one
    code-nodes : NodesIn words names header_words 1
    code-nodes = subst (NodesIn words names header_words) code-alone sheet-nodes

    sheet-code : CodeIn words names (kind_at (node_words words) 0)
    sheet-code = record { code = k; holds = e ∙ ap holding code-tree }

module _ (words names : List ℕ) where
  pub gives : Gives words names (checked words names)
  unfolding checked of_sheet
  gives = go (held words names) refl
    where
      there : (t : Trees) → held words names ≡ holding t → held words names ≡ holding (tree_of words names)
      there t e = e ∙ ap holding (sym (held-says words names e).tree)

      kinds : (t : Trees) (e : held words names ≡ holding t) (b : Bool) → ltb (kind_at (node_words words) 0) 24 ≡ b
          → Gives words names (Ok (cond b (Found.Code header_words (kind_at (node_words words) 0)) (Found.Nodes header_words (get_or words 0 0))))
      kinds t e true p =
          let s = (held-says words names e).sheet in
          let k = ltb-true _ _ p in
          (sheet-code words names s (there t e) k, code-nodes words names s (there t e) k)
      kinds t e false p = sheet-nodes words names (held-says words names e).sheet (there t e)

      go : (x : Held) → held words names ≡ x → Gives words names (of_held Err (λ t. Ok (found words)) x)
      go (refused r) e = e
      go (holding t) e = kinds t e (ltb (kind_at (node_words words) 0) 24) refl

-- ---- The number of an answer, from what it gives.

abbrev held_number : Held → ℕ
held_number (refused r) = number r
held_number (holding t) = 0

abbrev held_both_number : HeldBoth → ℕ
held_both_number (refused_both r) = number r
held_both_number (holding_both t u) = 0

module _ (words names : List ℕ) where
  held_number_lem : held_number (held words names) ≡ sheet_number words names
  unfolding held sheet_number
  held_number_lem = go (is_sheet words names) (good_names (tree_of words names))
    where
      go : (x y : Bool) → held_number (cond x (cond y (holding (tree_of words names)) (refused BadName)) (refused NotASheet)) ≡ cond x (cond y 0 4) 3
      go true true = refl
      go true false = refl
      go false y = refl

  gives-number : (r : Result Found Refusal) → Gives words names r → checked_number r ≡ sheet_number words names
  gives-number (Err r) g = sym (ap held_number g) ∙ held_number_lem
  gives-number (Ok (Found.Code first k)) g = sym (ap held_number g.0.holds) ∙ held_number_lem
  gives-number (Ok (Found.Nodes first n)) g = sym (ap held_number g.nodes.holds) ∙ held_number_lem

module _ (aw an bw bn : List ℕ) where
  held-both-number : held_both_number (held_both aw an bw bn) ≡ sheets_number aw an bw bn
  unfolding held_both held sheets_number
  held-both-number = go (is_sheet aw an) (good_names (tree_of aw an)) (is_sheet bw bn) (good_names (tree_of bw bn))
    where
      of : Bool → Bool → Trees → Held
      of x y t = cond x (cond y (holding t) (refused BadName)) (refused NotASheet)

      go : (a x b y : Bool) → held_both_number (paired (of a x (tree_of aw an)) (of b y (tree_of bw bn))) ≡ cond (a && b) (cond (x && y) 0 4) 3
      go true true true true = refl
      go true true true false = refl
      go true true false y = refl
      go true false true true = refl
      go true false true false = refl
      go true false false y = refl
      go false x true true = refl
      go false x true false = refl
      go false x false y = refl

  gives-number-both : (r : Result FoundBoth Refusal) → GivesBoth aw an bw bn r → checked_both_number r ≡ sheets_number aw an bw bn
  unfolding held_both
  gives-number-both (Err r) g = sym (ap held_both_number g) ∙ held-both-number
  gives-number-both (Ok (FoundBoth.Codes k j)) g = sym (ap₂ (λ (x y : Held). held_both_number (paired x y)) g.0.holds g.1.holds) ∙ held-both-number
  gives-number-both (Ok (FoundBoth.Nodes f n h m)) g = sym (ap₂ (λ (x y : Held). held_both_number (paired x y)) g.0.nodes.holds g.1.nodes.holds) ∙ held-both-number

-- ---- What the pass over a sheet says, and the check.

module _ (words names : List ℕ) where
  abbrev checked_as : Result (Unit {0}) Refusal → Result Found Refusal
  checked_as (Err r) = Err r
  checked_as (Ok tt) = Ok (found words)

  pub verdict-checked : {v : Result (Unit {0}) Refusal} → verdict_of words names ≡ v → checked_as v ≡ checked words names
  unfolding verdict_of checked of_sheet held
  verdict-checked h = ap checked_as (sym h) ∙ go (is_sheet words names) (good_names (tree_of words names))
    where
      go : (x y : Bool) → checked_as (cond x (cond y (Ok tt) (Err BadName)) (Err NotASheet)) ≡ of_held Err (λ t. Ok (found words)) (cond x (cond y (holding (tree_of words names)) (refused BadName)) (refused NotASheet))
      go true true = refl
      go true false = refl
      go false y = refl

  verdict-sheet : verdict_of words names ≡ Ok tt → is_sheet words names ≡ true
  unfolding verdict_of
  verdict-sheet h = go (is_sheet words names) (good_names (tree_of words names)) h
    where
      go : (x y : Bool) → ◌≡◌ {A = Result (Unit {0}) Refusal} (cond x (cond y (Ok tt) (Err BadName)) (Err NotASheet)) (Ok tt) → x ≡ true
      go true y e = refl
      go false y e = let z : ◌≡◌ {A = ℕ} 0 1 = cc in absurd (omega arith)

  module _ (h : verdict_of words names ≡ Ok tt) where
    pub good-room : words_used 1 ≤ length words
    good-room = let s = sheet-says words names (verdict-sheet h) in let r = s.head.room in let n = s.head.some-nodes in omega arith

    pub good-code : get_or words header_words 0 < 24 → Ok (Found.Code header_words (get_or words header_words 0)) ≡ checked words names
    good-code k = let e : get_or words header_words 0 ≡ kind_at (node_words words) 0 = sym (get_or-drop header_words words 0 0) in ap (λ k. Ok (Found.Code header_words k)) e ∙ sym (rw (lt-ltb (kind_at (node_words words) 0) 24 (omega arith))) ∙ verdict-checked h

    pub good-nodes : 24 ≤ get_or words header_words 0 → Ok (Found.Nodes header_words (get_or words 0 0)) ≡ checked words names
    good-nodes k = let e : get_or words header_words 0 ≡ kind_at (node_words words) 0 = sym (get_or-drop header_words words 0 0) in sym (rw (le-ltb (kind_at (node_words words) 0) 24 (omega arith))) ∙ verdict-checked h

  -- the words of one code are a sheet
  module _ (l : LoneCode words) where
    lone-header : header words (length names) ≡ true
    unfolding header
    lone-header = let r = l.room in rw (l.nodes, l.offset, l.names, l.used, le-leb header_words (length words) (omega arith), le-leb (words_used 1) (length words) r, le-leb 0 (length names) (omega arith))

    pub lone-good : verdict_of words names ≡ Ok tt
    unfolding answer
    lone-good = sym (verdict-code words names lone-header l.nodes (l.count ∙ sym l.nodes) l.kind (Some (0, true)) (rw (l.first, l.second))) ∙ rw l.names

  -- the promises of the check from the first
  pub check-gives : {r : Result Found Refusal} → r ≡ checked words names → (r ≡ checked words names) × (Gives words names r × (checked_number r ≡ sheet_number words names))
  check-gives {r} e = let g = subst (Gives words names) (sym e) (gives words names) in (e, (g, gives-number words names r g))

-- ---- A lone code.

module _ (words : List ℕ) where
  pub lone_is : LoneCode words → Some (get_or words header_words 0) ≡ lone_code words
  unfolding lone_code
  lone_is l = ap code_of (good-code words [] (lone-good words [] l) l.kind)

  sheet-lone : is_sheet words [] ≡ true → kind_at (node_words words) 0 < 24 → LoneCode words
  sheet-lone h k =
      let w = node_words words in
      let s = sheet-says words [] h in
      let b = s.head.bytes in
      let c : count_at w 0 ≡ 1 = leaf-count w 0 s.root (omega arith) in
      let n : get_or words 0 0 ≡ 1 = sym s.count ∙ c in
      let z = code-numbers w 0 (get_or words 2 0) k (rw n at s.packs) in
      record {
        room = rw n at s.head.room;
        nodes = n;
        offset = s.head.offset;
        names = omega arith;
        used = s.head.used ∙ ap words_used n;
        kind = rw (← get_or-drop header_words words 0 0) k;
        first = sym (get_or-drop header_words words 1 0) ∙ z.0;
        second = sym (get_or-drop header_words words 2 0) ∙ z.1;
        count = sym (get_or-drop header_words words 3 0) ∙ c;
      }

  code-lone : {first k : ℕ} → checked words [] ≡ Ok (Found.Code first k) → LoneCode words × (get_or words header_words 0 ≡ k)
  unfolding checked of_sheet
  code-lone {first} {k} h = go (held words []) refl h
    where
      kinds : (t : Trees) → held words [] ≡ holding t → (b : Bool) → ltb (kind_at (node_words words) 0) 24 ≡ b
          → ◌≡◌ {A = Result Found Refusal} (Ok (cond b (Found.Code header_words (kind_at (node_words words) 0)) (Found.Nodes header_words (get_or words 0 0)))) (Ok (Found.Code first k)) → LoneCode words × (get_or words header_words 0 ≡ k)
      kinds t e true p d =
          let s = (held-says words [] e).sheet in
          let same : kind_at (node_words words) 0 ≡ k = cc in
          (sheet-lone s (ltb-true _ _ p), sym (get_or-drop header_words words 0 0) ∙ same)
      kinds t e false p d = let z : ◌≡◌ {A = ℕ} 0 1 = cc in absurd (omega arith)

      go : (x : Held) → held words [] ≡ x → of_held Err (λ t. Ok (found words)) x ≡ Ok (Found.Code first k) → LoneCode words × (get_or words header_words 0 ≡ k)
      go (refused r) e d = let z : ◌≡◌ {A = ℕ} 0 1 = cc in absurd (omega arith)
      go (holding t) e d = kinds t e (ltb (kind_at (node_words words) 0) 24) refl d

  pub lone-none : (LoneCode words → ⊥) → None ≡ lone_code words
  unfolding lone_code
  lone-none other = go (checked words []) refl
    where
      go : (x : Result Found Refusal) → checked words [] ≡ x → None ≡ code_of x
      go (Err r) e = refl
      go (Ok (Found.Code first k)) e = absurd (other (code-lone e).0)
      go (Ok (Found.Nodes first n)) e = refl

  -- whatever names stand beside the words
  pub lone-gives : {k : ℕ} → lone_code words ≡ Some k → (names : List ℕ) → CodeIn words names k
  unfolding lone_code
  lone-gives {k} h names = go (checked words []) refl h
    where
      go : (x : Result Found Refusal) → checked words [] ≡ x → code_of x ≡ Some k → CodeIn words names k
      go (Err r) e d = let z : ◌≡◌ {A = ℕ} 0 1 = cc in absurd (omega arith)
      go (Ok (Found.Code first j)) e d =
          let c = code-lone e in
          let same : j ≡ k = cc in
          subst (CodeIn words names) (c.1 ∙ same) (subst (Gives words names) (sym (good-code words names (lone-good words names c.0) c.0.kind)) (gives words names)).0
      go (Ok (Found.Nodes first n)) e d = let z : ◌≡◌ {A = ℕ} 0 1 = cc in absurd (omega arith)

module _ (aw an bw bn : List ℕ) where
  gives_both : GivesBoth aw an bw bn (checked_both aw an bw bn)
  unfolding checked_both held_both
  gives_both = go (checked aw an) (gives aw an) (checked bw bn) (gives bw bn)
    where
      go : (x : Result Found Refusal) → Gives aw an x → (y : Result Found Refusal) → Gives bw bn y → GivesBoth aw an bw bn (both x y)
      go (Err r) g (Err q) h = rw (g, h)
      go (Err r) g (Ok (Found.Code i j)) h = rw (g, h.0.holds)
      go (Err r) g (Ok (Found.Nodes i m)) h = rw (g, h.nodes.holds)
      go (Ok (Found.Code f k)) g (Err q) h = rw (g.0.holds, h)
      go (Ok (Found.Code f k)) g (Ok (Found.Code i j)) h = (g.0, h.0)
      go (Ok (Found.Code f k)) g (Ok (Found.Nodes i m)) h = (g.1, h)
      go (Ok (Found.Nodes f n)) g (Err q) h = rw (g.nodes.holds, h)
      go (Ok (Found.Nodes f n)) g (Ok (Found.Code i j)) h = (g, h.1)
      go (Ok (Found.Nodes f n)) g (Ok (Found.Nodes i m)) h = (g, h)

  pub both-gives : {x y : Result Found Refusal} {r : Result FoundBoth Refusal} → r ≡ both x y → x ≡ checked aw an → y ≡ checked bw bn
      → (r ≡ checked_both aw an bw bn) × (GivesBoth aw an bw bn r × (checked_both_number r ≡ sheets_number aw an bw bn))
  unfolding checked_both
  both-gives {x} {y} {r} e p q =
      let d : r ≡ checked_both aw an bw bn = e ∙ ap₂ both p q in
      let g = subst (GivesBoth aw an bw bn) (sym d) gives_both in
      (d, (g, gives-number-both aw an bw bn r g))

-- ---- For a walk: what it is given, by what the check found, and the answer that it makes of it.

module _ (words names : List ℕ) {c : Result Found Refusal} (g : Gives words names c) where
  pub given-refused : {r : Refusal} → c ≡ Err r → held words names ≡ refused r
  given-refused e = subst (Gives words names) e g

  pub given-code : {x : Found} {first k : ℕ} → c ≡ Ok x → x ≡ Found.Code first k → CodeIn words names k
  given-code d e = (subst (Gives words names) (d ∙ ap Ok e) g).0

  -- a code is one node
  pub given-node : {x : Found} {first k : ℕ} → c ≡ Ok x → x ≡ Found.Code first k → NodesIn words names first 1
  given-node d e = (subst (Gives words names) (d ∙ ap Ok e) g).1

  pub given-nodes : {x : Found} {first n : ℕ} → c ≡ Ok x → x ≡ Found.Nodes first n → NodesIn words names first n
  given-nodes d e = subst (Gives words names) (d ∙ ap Ok e) g

module _ (aw an bw bn : List ℕ) {c : Result FoundBoth Refusal} (g : GivesBoth aw an bw bn c) where
  pub given-refused-both : {r : Refusal} → c ≡ Err r → held_both aw an bw bn ≡ refused_both r
  given-refused-both e = subst (GivesBoth aw an bw bn) e g

  pub given-codes : {x : FoundBoth} {k j : ℕ} → c ≡ Ok x → x ≡ FoundBoth.Codes k j → CodeIn aw an k × CodeIn bw bn j
  given-codes d e = subst (GivesBoth aw an bw bn) (d ∙ ap Ok e) g

  pub given-nodes-both : {x : FoundBoth} {f n h m : ℕ} → c ≡ Ok x → x ≡ FoundBoth.Nodes f n h m → NodesIn aw an f n × NodesIn bw bn h m
  given-nodes-both d e = subst (GivesBoth aw an bw bn) (d ∙ ap Ok e) g

-- The nodes as the code takes them out of the words, `&words[first..]`.
pub nodes-part : {words names : List ℕ} {first n : ℕ} → NodesIn words names first n → NodesAre words names (take (length words - first) (drop first words)) n
nodes-part {words} {names} {first} {n} h = subst (λ (w : List ℕ). NodesAre words names w n) (sym (part-rest words first)) h.nodes

module _ {A : Type 0} (refuse : Refusal → A) (words names : List ℕ) where
  pub answer-refused : (tell : Trees → A) {r : Refusal} → held words names ≡ refused r → refuse r ≡ of_sheet refuse tell words names
  unfolding of_sheet
  answer-refused tell h = sym (rw h)

  pub answer-held : (tell : Trees → A) {t : Trees} → held words names ≡ holding t → tell t ≡ of_sheet refuse tell words names
  unfolding of_sheet
  answer-held tell h = sym (rw h)

module _ {A : Type 0} (refuse : Refusal → A) (tell : Trees → Trees → A) (aw an bw bn : List ℕ) where
  pub answer-refused-both : {r : Refusal} → held_both aw an bw bn ≡ refused_both r → refuse r ≡ of_sheets refuse tell aw an bw bn
  unfolding of_sheets
  answer-refused-both h = sym (rw h)

  pub answer-held-both : {t u : Trees} → held aw an ≡ holding t → held bw bn ≡ holding u → tell t u ≡ of_sheets refuse tell aw an bw bn
  unfolding of_sheets held_both
  answer-held-both h k = sym (rw (h, k))
