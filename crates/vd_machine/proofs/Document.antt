-- Text is UTF-8.
use Rattle.std.proofs.Common.{◌≡◌, ℕ, ◌==◌, true, cond, List, length, None, ap, IsUtf8, arith}
use Rattle.std.proofs.lemmas.Bool.Decides.{nat_tests}
use Rattle.std.proofs.lemmas.Str.{utf8_valid_len-IsUtf8}
use Rattle.toml.specs.Parse.{parse_document}
use Rattle.vd_machine.specs.File.{document}

pub document_text : (bytes : List ℕ) → IsUtf8 bytes → document bytes ≡ parse_document bytes
unfolding document
document_text bytes h =
    let same : (length bytes == length bytes) ≡ true = grind (arith, nat_tests) in
    rw (utf8_valid_len-IsUtf8 bytes h) (ap (λ b. cond b (parse_document bytes) None) same)
