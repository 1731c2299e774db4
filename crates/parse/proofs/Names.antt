-- Laws on names that are read and copied.
use Prim.Native.Nat.{ℕ, ◌+◌, ◌-◌, ◌≤◌, ◌<◌}
use mathlib.Core.Path.{◌≡◌, sym, ap}
use mathlib.Core.List.{List}
use native.Mathlib.Omega.{arith}
use lib.ListN.{length, take, drop}
use lib.Seq.{sets}
use Rattle.kinds.specs.Parse.{Named}
use Rattle.names.proofs.NameLaws.{NameRead, passed_length}
use Rattle.parse.specs.Agree.{NameFound}

-- The name fits where the unread bytes do.
pub name-room : (text : List ℕ) (at m x e to : ℕ) (q : Named) → NameRead text at e to q → m + (length text - at) ≤ x → m + length (take (e - at) (drop at text)) ≤ x
name-room text at m x e to q r h = omega (arith, r.some, r.passed, r.within, passed_length text at e (omega (arith, r.some)) (omega (arith, r.passed, r.within)))

-- A name that was read and copied.
pub name-copied : (text : List ℕ) (at m : ℕ) (b a : List ℕ) (e to : ℕ) (q : Named) → NameRead text at e to q → a ≡ sets b m (take (e - at) (drop at text)) → NameFound text at m b a to (m + (e - at)) q
name-copied text at m b a e to q r c =
    let s : at < e = r.some in
    let p : e ≤ to = r.passed in
    let w : to ≤ length text = r.within in
    record {
      name = take (e - at) (drop at text);
      is = r.is;
      names-is = ap (λ (x : ℕ). m + x) (sym (passed_length text at e (omega arith) (omega arith)));
      names-are = c;
      onward = omega arith;
      within = w;
      names-room = omega arith;
    }
