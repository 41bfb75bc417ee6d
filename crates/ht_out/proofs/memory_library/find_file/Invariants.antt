use Rattle.std.proofs.Common.{◌≡◌, drop, map}
use Rattle.ht_out.specs.FileMaps.{file_of}
use Rattle.ht_out.proofs.memory_library.find_file.Given as goal

abbrev pub invariant-loop-file : goal.invariant-loop-file
invariant-loop-file l =
    file_of (map (λ f. (f.name, f.bytes)) l.files) l.name
    ≡ file_of (map (λ f. (f.name, f.bytes)) (drop l.file-index l.files)) l.name
