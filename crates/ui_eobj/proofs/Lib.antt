mod Magnitudes
