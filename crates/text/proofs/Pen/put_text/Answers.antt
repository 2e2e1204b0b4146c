-- `put_text`: as much of the text as there is room for, put in one piece (`put_piece`).
use Rattle.std.proofs.Common.{arith, rules, refl, ◌∙◌, ◌≡◌, ◌≤◌, ◌+◌, ◌-◌, append_assoc, List, ℕ, take, drop, length}
use Rattle.std.proofs.lemmas.List.{length-take-le, drop-drop}
use Rattle.std.proofs.lemmas.List.Edits.{sets, sets-eq}
use borrow.Rule.Slice.PartMut.{put_mid}
use Rattle.text.specs.PutLaws.{put_piece}
use Rattle.text.proofs.Pen.put_text.Goals as goal

laid : (b text xs : List ℕ) (a n k : ℕ) → xs ≡ take n text → k ≡ n → n ≤ length text → a + n ≤ length b → sets b a (take n text) ≡ put_mid a k b xs
laid b text xs a n k e f h g =
    let long = length-take-le n text h in
    rw (e, f) (sets-eq (take n text) b a (omega (arith, long, g)) ∙ rw (long, drop-drop n a b) (append_assoc (take a b) (take n text) (drop (a + n) b)))

pub returns : goal.returns
returns c =
    let b = c.args.self.now.buf.now in
    let a = c.min-at.result in
    let n = c.min-n.result in
    let s = laid b c.args.text.now c.copy_from_slice.new.self a n (a + n - a) (search rules) (omega arith) (omega (arith, c.min-n.ensures)) (omega (arith, c.min-n.ensures, c.min-at.ensures)) in
    record {
      put = rw s at (put_piece c.args.text.now b c.args.self.now.at a n c.min-at.ensures c.min-n.ensures);
      same = refl;
    }
