-- What a count of blanks at an end of a text leaves.
use Rattle.std.proofs.Common.{◌≡◌, ◌+◌, ◌-◌, ◌≤◌, ℕ, List, length, take, drop, ap, arith}
use Rattle.std.proofs.lemmas.List.{length-drop, take_all}
use Rattle.std.specs.List.{prefix_len, suffix_len}
use Rattle.tables.specs.Table.{is_blank, cut_front, cut_back}

pub front_is : (text : List ℕ) (n : ℕ) → prefix_len is_blank text ≡ n + prefix_len is_blank (drop n text) → prefix_len is_blank (drop n text) ≡ 0
    → take (length text - n) (drop n text) ≡ cut_front text
unfolding cut_front
front_is text n so_far stops =
    let here : prefix_len is_blank text ≡ n = omega arith in
    rw (here, ← length-drop n text) (take_all _ (drop n text) (omega arith))

pub back_is : (text : List ℕ) (n : ℕ) → n ≤ length text → n + suffix_len is_blank text ≡ length text + suffix_len is_blank (take n text) → suffix_len is_blank (take n text) ≡ 0
    → take n text ≡ cut_back text
unfolding cut_back
back_is text n within so_far stops =
    let here : n ≡ length text - suffix_len is_blank text = omega arith in
    ap (λ m. take m text) here
