mod Comes
