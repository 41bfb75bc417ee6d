use Rattle.ht_text.proofs.FileTexts.{element_file, element_read, element_back}
use Rattle.ht_text.proofs.laws.an_elements_file_is_read_back.Goals as goal

pub returns-clause-is_file : goal.returns-clause-is_file
returns-clause-is_file c = element_file

pub returns-clause-given : goal.returns-clause-given
returns-clause-given c = element_read

pub returns-clause-element : goal.returns-clause-element
returns-clause-element c = element_back
