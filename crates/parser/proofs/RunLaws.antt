-- Laws of runs of bytes that pass a test.
use Prim.Native.Nat.{ℕ, zero, suc, ◌+◌, ◌-◌, ◌≤◌, ◌<◌}
use mathlib.Core.Path.{◌≡◌, refl, sym, ap, subst, ◌∙◌}
use mathlib.Core.List.{List, [], ◌∷◌}
use mathlib.Core.Bool.{Bool, true, false}
use native.Mathlib.Omega.{arith}
use lib.ListN.{length, drop, get_or, length-drop}
use lib.Seq.{get_or-drop, drop-nil}
use Rattle.std.proofs.lemmas.Bool.Decides.{nat_tests}
use Rattle.kinds.proofs.ListLaws.{unread}
use Rattle.parser.specs.Run.{after, run_end, quoted}
use Rattle.parser.proofs.PlaceLaws.{drop-on}

-- The first `k` bytes of `s` pass, and no more.
record Passed (test : ℕ → Bool) (s : List ℕ) (k : ℕ) : Type 0 where
  fits : k ≤ length s
  left : after test s ≡ drop k s
  run : (i : ℕ) → i < k → test (get_or s i 0) ≡ true
  stopped : k < length s → test (get_or s k 0) ≡ false

-- From `at` on up to `to` the bytes pass, and no further.
pub record RunTo (test : ℕ → Bool) (text : List ℕ) (at to : ℕ) : Type 0 where
  pub onward : at ≤ to
  pub within : to ≤ length text
  pub left : after test (drop at text) ≡ drop to text
  pub run : (i : ℕ) → at ≤ i → i < to → test (get_or text i 0) ≡ true
  pub stopped : to < length text → test (get_or text to 0) ≡ false

module _ (test : ℕ → Bool) where
  pub after_more : (b : ℕ) (s : List ℕ) → test b ≡ true → after test (b ∷ s) ≡ after test s
  unfolding after
  after_more b s e = rw (e, after) refl

  pub after_stop : (b : ℕ) (s : List ℕ) → test b ≡ false → after test (b ∷ s) ≡ b ∷ s
  unfolding after
  after_stop b s e = rw (e, after) refl

  pub after-end : after test [] ≡ []
  unfolding after
  after-end = refl

  pass-run : (b : ℕ) (s : List ℕ) (k : ℕ) → test b ≡ true → ((i : ℕ) → i < k → test (get_or s i 0) ≡ true) → (i : ℕ) → i < suc k → test (get_or (b ∷ s) i 0) ≡ true
  pass-run b s k e r zero h = e
  pass-run b s k e r (suc i) h = r i (omega arith)

  pass : (b : ℕ) (s : List ℕ) (k : ℕ) → test b ≡ true → Passed test s k → Passed test (b ∷ s) (suc k)
  pass b s k e p = record {
    fits = omega (arith, p.fits);
    left = after_more b s e ∙ p.left;
    run = pass-run b s k e p.run;
    stopped = λ h. p.stopped (omega arith);
  }

  passed : (s : List ℕ) → Passed test s (length s - length (after test s))
  passed [] = record { fits = omega arith; left = after-end ∙ sym (drop-nil (0 - length (after test []))); run = λ i h. absurd (omega arith); stopped = λ h. absurd (omega arith) }
  passed (b ∷ s) = go (test b) refl (passed s)
    where
      go : (d : Bool) → test b ≡ d → Passed test s (length s - length (after test s)) → Passed test (b ∷ s) (length (b ∷ s) - length (after test (b ∷ s)))
      go true e p =
          let n : length (after test s) ≡ length s - (length s - length (after test s)) = ap length p.left ∙ length-drop _ s in
          let m : length (after test (b ∷ s)) ≡ length (after test s) = ap length (after_more b s e) in
          let k : suc (length s - length (after test s)) ≡ length (b ∷ s) - length (after test (b ∷ s)) = omega arith in
          subst (λ (j : ℕ). Passed test (b ∷ s) j) k (pass b s _ e p)
      go false e p =
          let m : length (after test (b ∷ s)) ≡ length (b ∷ s) = ap length (after_stop b s e) in
          let k : 0 ≡ length (b ∷ s) - length (after test (b ∷ s)) = omega arith in
          subst (λ (j : ℕ). Passed test (b ∷ s) j) k (record { fits = omega arith; left = after_stop b s e; run = λ i h. absurd (omega arith); stopped = λ h. e })

  -- ---- At a place.

  pub run-to : (text : List ℕ) (at to : ℕ) → at ≤ length text → to ≡ run_end test text at → RunTo test text at to
  unfolding run_end
  run-to text at to l e =
      let p = passed (drop at text) in
      let n : length (drop at text) ≡ length text - at = length-drop at text in
      let k : ℕ = length (drop at text) - length (after test (drop at text)) in
      let f : k ≤ length (drop at text) = p.fits in
      let step : (i : ℕ) → at ≤ i → get_or (drop at text) (i - at) 0 ≡ get_or text i 0 =
      λ i h. let j : at + (i - at) ≡ i = omega arith in get_or-drop at text (i - at) 0 ∙ ap (λ (x : ℕ). get_or text x 0) j in
      let q : to - at ≡ k = omega arith in
      record {
        onward = omega arith;
        within = omega arith;
        left = p.left ∙ sym (drop-on at k text) ∙ ap (λ (x : ℕ). drop x text) (sym e);
        run = λ i h m. ap test (sym (step i h)) ∙ p.run (i - at) (omega arith);
        stopped = λ h. ap test (sym (step to (omega arith))) ∙ ap (λ (x : ℕ). test (get_or (drop at text) x 0)) q ∙ p.stopped (omega arith);
      }

  -- What each byte of a run keeps, the run keeps.
  pub run-keeps : {Y : Type 0} (f : List ℕ → Y) (text : List ℕ) (at to : ℕ) → RunTo test text at to
      → ((i : ℕ) → i < length text → test (get_or text i 0) ≡ true → f (drop i text) ≡ f (drop (i + 1) text)) → f (drop at text) ≡ f (drop to text)
  run-keeps f text at to p more = go (to - at) to (omega (arith, p.onward)) p.within p.run
    where
      go : (n j : ℕ) → at + n ≡ j → j ≤ length text → ((i : ℕ) → at ≤ i → i < j → test (get_or text i 0) ≡ true) → f (drop at text) ≡ f (drop j text)
      go zero j e l r = let here : at ≡ j = omega arith in ap (λ (k : ℕ). f (drop k text)) here
      go (suc n) j e l r =
          let next : at + n + 1 ≡ j = omega arith in
          go n (at + n) refl (omega arith) (λ i a b. r i a (omega arith))
          ∙ more (at + n) (omega arith) (r (at + n) (omega arith) (omega arith))
          ∙ ap (λ (k : ℕ). f (drop k text)) next

  pub run_more : (s : List ℕ) (i : ℕ) → i < length s → test (get_or s i 0) ≡ true → run_end test s i ≡ run_end test s (i + 1)
  unfolding run_end
  run_more s i h e =
      let same : length (after test (drop i s)) ≡ length (after test (drop (i + 1) s)) = ap length (ap (after test) (unread s i h) ∙ after_more _ _ e) in
      let p = passed (drop (i + 1) s) in
      let n : length (after test (drop (i + 1) s)) ≡ length (drop (i + 1) s) - (length (drop (i + 1) s) - length (after test (drop (i + 1) s))) = ap length p.left ∙ length-drop _ (drop (i + 1) s) in
      omega (arith, length-drop i s, length-drop (i + 1) s)

  pub run-stop : (s : List ℕ) (i : ℕ) → i < length s → test (get_or s i 0) ≡ false → run_end test s i ≡ i
  unfolding run_end
  run-stop s i h e =
      let same : length (after test (drop i s)) ≡ length (drop i s) = ap length (ap (after test) (unread s i h) ∙ after_stop _ _ e ∙ sym (unread s i h)) in
      omega arith

  pub run_end_lem : (s : List ℕ) (i : ℕ) → length s ≤ i → run_end test s i ≡ i
  unfolding run_end
  run_end_lem s i h = omega (arith, length-drop i s)

-- ---- Within quotes.

not-quote : (b : ℕ) → quoted b ≡ true → b ≡ 34 → ⊥
unfolding quoted
not-quote b q e = grind (arith, nat_tests)

quote : (b : ℕ) → quoted b ≡ false → b ≡ 34
unfolding quoted
quote b q = grind (arith, nat_tests)

-- Where quotes end, the text ends or a quote stands; what each byte within them keeps, stands.
pub record QuoteEnd {Y : Type 0} (f : List ℕ → Y) (text : List ℕ) (at to : ℕ) : Type 0 where
  pub within : to ≤ length text
  pub passed : f (drop at text) ≡ f (drop to text)
  pub stopped : to < length text → get_or text to 0 ≡ 34

pub quoted-run : {Y : Type 0} (f : List ℕ → Y) (text : List ℕ) (at to : ℕ) → ((i : ℕ) → i < length text → (get_or text i 0 ≡ 34 → ⊥) → f (drop i text) ≡ f (drop (i + 1) text))
    → at ≤ length text → to ≡ run_end quoted text at → QuoteEnd f text at to
quoted-run f text at to more l e =
    let p = run-to quoted text at to l e in
    record {
      within = p.within;
      passed = run-keeps quoted f text at to p (λ i h q. more i h (not-quote _ q));
      stopped = λ h. quote _ (p.stopped h);
    }
